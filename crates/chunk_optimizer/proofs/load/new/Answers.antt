-- Refused by a row, or loaded. Assumes nothing.
use Rattle.std.proofs.Common.{refl}
use Rattle.std.proofs.lemmas.Result.{err_from_is_err_and}
use Rattle.merge_laws.specs.Rows.{row_some}
use Rattle.merge_loading.specs.Rows.{can_load, refused_load, free-load}
use Rattle.chunk_optimizer.proofs.load.new.Goals as goal

pub returns-in_err-load_row : goal.returns-in_err-load_row
returns-in_err-load_row c =
    let p = err_from_is_err_and c.from_residual.result c.from_residual.ensures.1 in
    rw (p.1, p.2) (refused_load _ _ _ c.in_err-load_row.ensures (row_some _) refl refl)

pub load-requires : goal.load-requires
load-requires c = can_load _ _ _ c.in_ok-load_row.ensures refl

pub returns : goal.returns
returns c = free-load _ _ _ c.in_ok-load_row.ensures refl refl c.load.ensures
