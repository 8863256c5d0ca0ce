-- A row turns the call back, or the counts are the definition's. Assumes nothing.
use Rattle.std.proofs.Common.{sym}
use Rattle.std.proofs.lemmas.Result.{err_from_is_err_and}
use Rattle.refusals.specs.Rows.{row_some}
use Rattle.plan_freedom.specs.Laws.{told_refused, can_free, told-counts}
use Rattle.plan_freedom.proofs.freedom.Goals as goal

pub returns-in_err-later_row : goal.returns-in_err-later_row
returns-in_err-later_row c =
    let p = err_from_is_err_and c.from_residual.result c.from_residual.ensures.1 in
    rw (p.1, p.2) (told_refused _ _ _ _ c.in_err-later_row.ensures (row_some _))

pub how_free-requires : goal.how_free-requires
how_free-requires c = can_free _ _ _ _ (sym c.in_ok-later_row.ensures)

pub returns : goal.returns
returns c = told-counts _ _ _ _ (sym c.in_ok-later_row.ensures) c.how_free.ensures
