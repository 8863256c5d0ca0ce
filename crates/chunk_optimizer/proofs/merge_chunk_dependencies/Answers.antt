-- Refused by a row, or done. Assumes nothing.
use Rattle.std.proofs.Common.{refl, rules}
use Rattle.std.proofs.lemmas.Result.{err_from_is_err_and}
use Rattle.merge_state.specs.Table.{acted}
use Rattle.merge_area.specs.Writes.{write}
use Rattle.merge_laws.specs.May.{pair_merge, may-merge}
use Rattle.merge_laws.specs.Rows.{acted_called}
use Rattle.chunk_optimizer.proofs.Refused.{refused_by}
use Rattle.chunk_optimizer.proofs.merge_chunk_dependencies.Goals as goal

pub returns-in_err-pair_row : goal.returns-in_err-pair_row
returns-in_err-pair_row c = let p = err_from_is_err_and c.from_residual.result c.from_residual.ensures.1 in rw (p.1, p.2) (refused_by _ _ _ _ (pair_merge _ _ _ _ c.in_err-pair_row.ensures))

pub merge-requires : goal.merge-requires
merge-requires c = let m = may-merge _ _ _ _ (pair_merge _ _ _ _ c.in_ok-pair_row.ensures) refl in search rules

pub returns : goal.returns
unfolding acted write
returns c = acted_called _ _ _ (pair_merge _ _ _ _ c.in_ok-pair_row.ensures) refl refl c.merge.ensures
