-- The rows, then the count. Assumes nothing.
use Rattle.std.proofs.Common.{ap, ◌∙◌, refl}
use Rattle.move_ledger.specs.Answer.{refused}
use Rattle.refusals.specs.Rows.{row_some}
use Rattle.reduced_chunk_graph.specs.Answers.{of_number}
use Rattle.reduced_chunk_graph.specs.Asked.{handed_on, asked-back, loads, head-inside, checks_some, count_eleven, count-told}
use Rattle.reduced_chunk_graph.proofs.questions.atom_count.Goals as goal

pub returns-in_err-later_row : goal.returns-in_err-later_row
returns-in_err-later_row c = handed_on of_number _ (λ _. refl) c.from_residual.ensures.1 ∙ asked-back _ _ _ _ c.in_err-later_row.ensures (row_some _) _

pub lent_set-requires : goal.lent_set-requires
lent_set-requires c = (loads _ _ _ _ c.in_ok-later_row.ensures).sizes.bits

pub returns-in_err-set : goal.returns-in_err-set
returns-in_err-set c = handed_on of_number _ (λ _. refl) c.from_residual-in_err-set.ensures.1 ∙ ap refused c.in_err-set.ensures.1 ∙ count_eleven _ _ _ _ c.in_ok-later_row.ensures _ c.in_err-set.ensures.0

pub registered-requires : goal.registered-requires
registered-requires c = head-inside _ _ _ _ c.in_ok-later_row.ensures

pub atom_count-count-requires : goal.atom_count-count-requires
atom_count-count-requires c = checks_some _ _ _ _ c.in_ok-later_row.ensures c.registered.ensures

pub returns : goal.returns
returns c = count-told _ _ _ _ c.in_ok-later_row.ensures _ c.in_ok-set.ensures c.registered.ensures c.atom_count-count.ensures c.from.ensures
