-- Refused by a row, or done. Assumes nothing.
use Rattle.std.proofs.Common.{refl}
use Rattle.std.proofs.lemmas.Result.{err_from_is_err_and}
use Rattle.merge_area.specs.Writes.{write}
use Rattle.merge_laws.specs.May.{may-reach, reach_is}
use Rattle.merge_laws.specs.Rows.{acted_called}
use Rattle.chunk_optimizer.proofs.Refused.{refused_by}
use Rattle.chunk_optimizer.proofs.is_reachable.Goals as goal

pub returns-in_err-reach_row : goal.returns-in_err-reach_row
returns-in_err-reach_row c = let p = err_from_is_err_and c.from_residual.result c.from_residual.ensures.1 in rw (p.1, p.2) (refused_by _ _ _ _ c.in_err-reach_row.ensures)

pub invariant_of-standing : goal.invariant_of-standing
invariant_of-standing c = record { headed = (may-reach _ _ _ _ c.in_ok-reach_row.ensures refl).1.headed }

pub reaches-requires : goal.reaches-requires
reaches-requires c = let m = may-reach _ _ _ _ c.in_ok-reach_row.ensures refl in (m.1, m.0.first, m.0.second)

pub returns : goal.returns
unfolding write
returns c = acted_called _ _ _ c.in_ok-reach_row.ensures refl (reach_is c.args.sizes c.args.area.now c.args.from.0 c.args.to.0 c.reaches.ensures) refl
