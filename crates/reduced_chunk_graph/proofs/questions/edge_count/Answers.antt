-- The rows, then the count. Assumes nothing.
use Rattle.std.proofs.Common.{◌∙◌, refl}
use Rattle.refusals.specs.Rows.{row_some}
use Rattle.reduced_chunk_graph.specs.Answers.{of_number}
use Rattle.reduced_chunk_graph.specs.Asked.{handed_on, asked-back, checks, totals_inside, edges-told}
use Rattle.reduced_chunk_graph.proofs.questions.edge_count.Goals as goal

pub returns-in_err-later_row : goal.returns-in_err-later_row
returns-in_err-later_row c = handed_on of_number _ (λ _. refl) c.from_residual.ensures.1 ∙ asked-back _ _ _ _ c.in_err-later_row.ensures (row_some _) _

pub edge_count-requires : goal.edge_count-requires
edge_count-requires c = totals_inside _ _ _ _ c.in_ok-later_row.ensures

pub returns : goal.returns
returns c = edges-told _ _ _ _ c.in_ok-later_row.ensures _ (c.edge_count.ensures _ _ (checks _ _ _ _ c.in_ok-later_row.ensures))
