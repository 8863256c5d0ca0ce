-- The rows, then the set. Assumes nothing.
use Rattle.std.proofs.Common.{arith, ◌∙◌, refl}
use Rattle.refusals.specs.Rows.{row_some}
use Rattle.reduced_chunk_graph.specs.Answers.{of_set}
use Rattle.reduced_chunk_graph.specs.Asked.{handed_on, asked-back, set_ten, can_read-set, set_told}
use Rattle.reduced_chunk_graph.proofs.questions.atom_set.Goals as goal

pub returns-in_err-later_row : goal.returns-in_err-later_row
returns-in_err-later_row c = handed_on of_set _ (λ _. refl) c.from_residual.ensures.1 ∙ asked-back _ _ _ _ c.in_err-later_row.ensures (row_some _) _

pub returns-then-load-i : goal.returns-then-load-i
returns-then-load-i c = set_ten _ _ _ _ c.in_ok-later_row.ensures _ (omega arith)

pub atom_set-requires : goal.atom_set-requires
atom_set-requires c = can_read-set _ _ _ _ c.in_ok-later_row.ensures _ (omega arith)

pub returns : goal.returns
returns c = set_told _ _ _ _ c.in_ok-later_row.ensures _ (omega arith) c.atom_set.ensures
