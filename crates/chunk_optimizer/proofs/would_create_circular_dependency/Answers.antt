-- Refused by a row, or done. Assumes nothing.
use Rattle.std.proofs.Common.{refl}
use Rattle.std.proofs.lemmas.Result.{err_from_is_err_and}
use Rattle.merge_area.specs.Writes.{write}
use Rattle.merge_laws.specs.May.{may-ask, warn_is}
use Rattle.merge_laws.specs.Rows.{acted_called}
use Rattle.chunk_optimizer.proofs.Refused.{refused_by}
use Rattle.chunk_optimizer.proofs.would_create_circular_dependency.Goals as goal

pub returns-in_err-pair_row : goal.returns-in_err-pair_row
returns-in_err-pair_row c = let p = err_from_is_err_and c.from_residual.result c.from_residual.ensures.1 in rw (p.1, p.2) (refused_by _ _ _ _ c.in_err-pair_row.ensures)

pub invariant_of-standing : goal.invariant_of-standing
invariant_of-standing c = record { headed = (may-ask _ _ _ _ c.in_ok-pair_row.ensures refl).1.headed }

pub warns-requires : goal.warns-requires
warns-requires c = let m = may-ask _ _ _ _ c.in_ok-pair_row.ensures refl in (m.1, m.0.first, m.0.second)

pub returns : goal.returns
unfolding write
returns c = acted_called _ _ _ c.in_ok-pair_row.ensures refl (warn_is c.args.sizes c.args.area.now c.args.source.0 c.args.target.0 c.warns.ensures) refl
