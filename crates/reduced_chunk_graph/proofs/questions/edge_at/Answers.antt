-- The rows, then the edge. Assumes nothing.
use Rattle.std.proofs.Common.{◌∙◌, refl}
use Rattle.move_rows.specs.Listed.{listable_known, listable_some}
use Rattle.refusals.specs.Rows.{row_some}
use Rattle.reduced_chunk_graph.specs.Answers.{of_edge}
use Rattle.reduced_chunk_graph.specs.Asked.{handed_on, asked-back, head-inside, edge-told}
use Rattle.reduced_chunk_graph.proofs.questions.edge_at.Goals as goal

pub returns-in_err-listed_row : goal.returns-in_err-listed_row
returns-in_err-listed_row c = handed_on of_edge _ (λ _. refl) c.from_residual.ensures.1 ∙ asked-back _ _ _ _ c.in_err-listed_row.ensures.row (row_some _) _

pub registered-requires : goal.registered-requires
registered-requires c = head-inside _ _ _ _ c.in_ok-listed_row.ensures.row

pub edge_at-requires : goal.edge_at-requires
edge_at-requires c = listable_some c.in_ok-listed_row.ensures refl c.registered.ensures

pub returns : goal.returns
returns c = edge-told _ _ _ _ c.in_ok-listed_row.ensures.row _ _ (c.edge_at.ensures _ (listable_known c.in_ok-listed_row.ensures refl c.registered.ensures))
