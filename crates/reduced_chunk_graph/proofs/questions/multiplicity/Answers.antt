-- The rows, then the multiplicity. Assumes nothing.
use Rattle.std.proofs.Common.{ap, ◌∙◌, refl}
use Rattle.move_ledger.specs.Answer.{refused}
use Rattle.refusals.specs.Rows.{row_some}
use Rattle.reduced_chunk_graph.specs.Answers.{of_number}
use Rattle.reduced_chunk_graph.specs.Asked.{handed_on, asked-back, loads, head-inside, checks_some, from_eleven, to_eleven, multiplicity_told}
use Rattle.reduced_chunk_graph.proofs.questions.multiplicity.Goals as goal

pub returns-in_err-later_row : goal.returns-in_err-later_row
returns-in_err-later_row c = handed_on of_number _ (λ _. refl) c.from_residual.ensures.1 ∙ asked-back _ _ _ _ c.in_err-later_row.ensures (row_some _) _

pub lent_set-requires : goal.lent_set-requires
lent_set-requires c = (loads _ _ _ _ c.in_ok-later_row.ensures).sizes.bits

pub lent_set-requires-2 : goal.lent_set-requires-2
lent_set-requires-2 c = (loads _ _ _ _ c.in_ok-later_row.ensures).sizes.bits

pub returns-in_err-source : goal.returns-in_err-source
returns-in_err-source c = handed_on of_number _ (λ _. refl) c.from_residual-in_err-source.ensures.1 ∙ ap refused c.in_err-source.ensures.1 ∙ from_eleven _ _ _ _ c.in_ok-later_row.ensures _ _ c.in_err-source.ensures.0

pub returns-in_err-target : goal.returns-in_err-target
returns-in_err-target c = handed_on of_number _ (λ _. refl) c.from_residual-in_err-target.ensures.1 ∙ ap refused c.in_err-target.ensures.1 ∙ to_eleven _ _ _ _ c.in_ok-later_row.ensures _ _ c.in_ok-source.ensures.0 c.in_err-target.ensures.0

pub registered-requires : goal.registered-requires
registered-requires c = head-inside _ _ _ _ c.in_ok-later_row.ensures

pub multiplicity-count-requires : goal.multiplicity-count-requires
multiplicity-count-requires c = checks_some _ _ _ _ c.in_ok-later_row.ensures c.registered.ensures

pub returns : goal.returns
returns c = multiplicity_told _ _ _ _ c.in_ok-later_row.ensures _ _ c.in_ok-source.ensures c.in_ok-target.ensures c.registered.ensures c.multiplicity-count.ensures c.from.ensures
