-- A row refuses the question, or the book's search answers it. Assumes nothing.
use Rattle.std.proofs.Common.{sym, ◌∙◌, refl}
use mathlib.Core.Bool.{true, false}
use Rattle.refusals.specs.Rows.{row_some}
use Rattle.reduced_chunk_graph.specs.Answers.{of_load}
use Rattle.reduced_chunk_graph.specs.Asked.{handed_on, asked-back, can_search, verdict-told}
use Rattle.reduced_chunk_graph.proofs.cycle.has_cycle.Goals as goal

pub returns-in_err-later_row : goal.returns-in_err-later_row
returns-in_err-later_row c = handed_on of_load _ (λ _. refl) c.from_residual.ensures.1 ∙ asked-back _ _ _ _ c.in_err-later_row.ensures (row_some _) _

pub has_cycle-requires : goal.has_cycle-requires
has_cycle-requires c = can_search _ _ _ _ c.in_ok-later_row.ensures

pub returns-then-has_cycle : goal.returns-then-has_cycle
returns-then-has_cycle c = verdict-told _ _ _ _ c.in_ok-later_row.ensures {t = true} (sym c.if-has_cycle.true ∙ c.has_cycle.ensures)

pub returns : goal.returns
returns c = verdict-told _ _ _ _ c.in_ok-later_row.ensures {t = false} (sym c.if-has_cycle.false ∙ c.has_cycle.ensures)
