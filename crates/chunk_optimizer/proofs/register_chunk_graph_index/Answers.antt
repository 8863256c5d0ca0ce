-- Refused by a row, or done. Assumes nothing.
use Rattle.std.proofs.Common.{arith, refl}
use Rattle.std.proofs.lemmas.Result.{err_from_is_err_and}
use Rattle.merge_laws.specs.Rows.{row_some}
use Rattle.chunk_optimizer.specs.Registering.{stands, turned-back, key_past, not_made, registers}
use Rattle.chunk_optimizer.proofs.register_chunk_graph_index.Goals as goal

pub returns-in_err-standing_row : goal.returns-in_err-standing_row
returns-in_err-standing_row c =
    let p = err_from_is_err_and c.from_residual.result c.from_residual.ensures.1 in
    rw (p.1, p.2) (turned-back _ _ c.in_err-standing_row.ensures.row _ _ (row_some _) refl)

pub returns-then-sizes-key : goal.returns-then-sizes-key
returns-then-sizes-key c = key_past (stands _ _ c.in_ok-standing_row.ensures.row refl) _ _ c.if-sizes-key.true refl refl

pub returns-then-made-chunk : goal.returns-then-made-chunk
returns-then-made-chunk c = not_made (stands _ _ c.in_ok-standing_row.ensures.row refl) _ _ (omega (arith, rw (c.in_ok-standing_row.ensures.area.0, c.in_ok-standing_row.ensures.area.1) at c.header-made.ensures, c.if-made-chunk.true)) refl refl

pub returns : goal.returns
returns c = registers (stands _ _ c.in_ok-standing_row.ensures.row refl) _ _ (omega arith) (omega (arith, rw (c.in_ok-standing_row.ensures.area.0, c.in_ok-standing_row.ensures.area.1) at c.header-made.ensures, c.if-made-chunk.false)) refl c.register.ensures
