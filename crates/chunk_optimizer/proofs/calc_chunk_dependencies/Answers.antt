-- Refused by a row, or done. Assumes nothing.
use Rattle.std.proofs.Common.{arith, refl}
use Rattle.std.proofs.lemmas.Result.{err_from_is_err_and}
use Rattle.merge_state.specs.Table.{acted}
use Rattle.merge_area.specs.Writes.{write}
use Rattle.merge_laws.specs.May.{may_calc}
use Rattle.merge_laws.specs.Rows.{acted_called}
use Rattle.chunk_optimizer.proofs.Refused.{refused_by}
use Rattle.chunk_optimizer.proofs.calc_chunk_dependencies.Goals as goal

pub returns-in_err-calc_row : goal.returns-in_err-calc_row
returns-in_err-calc_row c = let p = err_from_is_err_and c.from_residual.result c.from_residual.ensures.1 in rw (p.1, p.2) (refused_by _ _ _ _ c.in_err-calc_row.ensures)

pub header-used-requires : goal.header-used-requires
header-used-requires c = ((may_calc _ _ _ _ c.in_ok-calc_row.ensures refl).1.long, omega arith)

pub invariant_of-header : goal.invariant_of-header
invariant_of-header c = record { limits = (may_calc _ _ _ _ c.in_ok-calc_row.ensures refl).1.within }

pub calculate-requires : goal.calculate-requires
calculate-requires c = rw c.header-used.ensures (may_calc _ _ _ _ c.in_ok-calc_row.ensures refl).0

pub returns : goal.returns
unfolding acted write
returns c = acted_called _ _ _ c.in_ok-calc_row.ensures refl refl (rw c.header-used.ensures at c.calculate.ensures)
