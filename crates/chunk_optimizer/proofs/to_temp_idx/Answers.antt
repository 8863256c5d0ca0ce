-- Refused by a row, or done. Assumes nothing.
use Rattle.std.proofs.Common.{refl, rules}
use Rattle.std.proofs.lemmas.Result.{err_from_is_err_and}
use Rattle.merge_area.specs.Writes.{write}
use Rattle.merge_laws.specs.May.{temp_stands, temp_past}
use Rattle.merge_laws.specs.Rows.{acted_called}
use Rattle.chunk_optimizer.proofs.Refused.{refused_by, key_called}
use Rattle.chunk_optimizer.proofs.to_temp_idx.Goals as goal

pub returns-in_err-standing_row : goal.returns-in_err-standing_row
returns-in_err-standing_row c = let p = err_from_is_err_and c.from_residual.result c.from_residual.ensures.1 in rw (p.1, p.2) (refused_by _ _ _ _ (temp_stands _ _ _ c.in_err-standing_row.ensures.row))

pub returns-then-sizes-k : goal.returns-then-sizes-k
unfolding write
returns-then-sizes-k c = acted_called _ _ _ (temp_stands _ _ _ c.in_ok-standing_row.ensures.row) refl (temp_past c.args.sizes c.args.area.now c.args.key.0 c.if-sizes-k.true) refl

pub returns : goal.returns
returns c =
    let n = rw (c.key.ensures, c.places-places.ensures, c.in_ok-standing_row.ensures.area.0) at c.named.ensures in
    let e = key_called _ _ _ c.named.result c.in_ok-standing_row.ensures.row c.if-sizes-k.false n in
    search rules
