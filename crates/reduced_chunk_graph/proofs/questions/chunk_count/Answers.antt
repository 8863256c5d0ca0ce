-- The rows, then the count. Assumes nothing.
use Rattle.std.proofs.Common.{◌∙◌, refl}
use Rattle.refusals.specs.Rows.{row_some}
use Rattle.reduced_chunk_graph.specs.Answers.{of_number}
use Rattle.reduced_chunk_graph.specs.Asked.{handed_on, asked-back, checks, totals_inside, chunks_told}
use Rattle.reduced_chunk_graph.proofs.questions.chunk_count.Goals as goal

pub returns-in_err-later_row : goal.returns-in_err-later_row
returns-in_err-later_row c = handed_on of_number _ (λ _. refl) c.from_residual.ensures.1 ∙ asked-back _ _ _ _ c.in_err-later_row.ensures (row_some _) _

pub chunk_count-requires : goal.chunk_count-requires
chunk_count-requires c = totals_inside _ _ _ _ c.in_ok-later_row.ensures

pub returns : goal.returns
returns c = chunks_told _ _ _ _ c.in_ok-later_row.ensures _ (c.chunk_count.ensures _ _ (checks _ _ _ _ c.in_ok-later_row.ensures))
