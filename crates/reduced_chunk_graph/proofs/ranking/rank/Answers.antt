-- The rows of the first area, then of the second, then the order. Assumes nothing.
use Rattle.std.proofs.Common.{◌∙◌, refl}
use Rattle.refusals.specs.Rows.{row_some}
use Rattle.reduced_chunk_graph.specs.Answers.{of_rank}
use Rattle.reduced_chunk_graph.specs.Asked.{handed_on}
use Rattle.reduced_chunk_graph.specs.Ranks.{first_back, second_back, both, both_some, rank-told}
use Rattle.reduced_chunk_graph.proofs.ranking.rank.Goals as goal

pub returns-in_err-later_row : goal.returns-in_err-later_row
returns-in_err-later_row c = handed_on of_rank _ (λ _. refl) c.from_residual.ensures.1 ∙ first_back _ _ _ _ _ c.in_err-later_row.ensures (row_some _)

pub returns-in_err-later_row-2 : goal.returns-in_err-later_row-2
returns-in_err-later_row-2 c = handed_on of_rank _ (λ _. refl) c.from_residual-in_err-later_row-2.ensures.1 ∙ second_back _ _ _ _ _ c.in_ok-later_row.ensures c.in_err-later_row-2.ensures (row_some _)

pub rank-requires : goal.rank-requires
rank-requires c = both_some _ _ _ _ _ c.in_ok-later_row.ensures c.in_ok-later_row-2.ensures

pub returns : goal.returns
returns c =
    rank-told _ _ _ _ _ c.in_ok-later_row.ensures c.in_ok-later_row-2.ensures
    (c.rank.ensures _ (both _ _ _ _ _ c.in_ok-later_row.ensures c.in_ok-later_row-2.ensures))
