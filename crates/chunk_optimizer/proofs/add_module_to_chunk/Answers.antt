-- Refused by a row, or done. Assumes nothing.
use Rattle.std.proofs.Common.{refl}
use Rattle.std.proofs.lemmas.Result.{err_from_is_err_and}
use Rattle.merge_state.specs.Table.{acted}
use Rattle.merge_area.specs.Writes.{write}
use Rattle.merge_laws.specs.May.{may_add}
use Rattle.merge_laws.specs.Rows.{acted_called}
use Rattle.chunk_optimizer.proofs.Refused.{refused_by}
use Rattle.chunk_optimizer.proofs.add_module_to_chunk.Goals as goal

pub returns-in_err-add_row : goal.returns-in_err-add_row
returns-in_err-add_row c = let p = err_from_is_err_and c.from_residual.result c.from_residual.ensures.1 in rw (p.1, p.2) (refused_by _ _ _ _ c.in_err-add_row.ensures)

pub bounds-effects-m : goal.bounds-effects-m
bounds-effects-m c = (may_add _ _ _ _ _ c.in_ok-add_row.ensures refl).1

pub append-requires : goal.append-requires
append-requires c = (may_add _ _ _ _ _ c.in_ok-add_row.ensures refl).0

pub returns : goal.returns
unfolding acted write
returns c = acted_called _ _ _ c.in_ok-add_row.ensures refl refl c.append.ensures
