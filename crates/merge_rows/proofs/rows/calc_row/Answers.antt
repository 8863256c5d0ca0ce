-- Rows 14, 15 and 21, and then 16. Assumes nothing.
use Rattle.std.proofs.Common.{refl, rules}
use Rattle.std.proofs.lemmas.Result.{err_from_is_err_and}
use Rattle.merge_state.specs.Table.{later, first_fitting}
use Rattle.merge_laws.specs.Rows.{early-row, late}
use Rattle.merge_rows.proofs.Laws.{calc_stand}
use Rattle.merge_rows.proofs.rows.calc_row.Goals as goal

pub returns-in_err-standing_row : goal.returns-in_err-standing_row
returns-in_err-standing_row c = let p = err_from_is_err_and c.from_residual.result c.from_residual.ensures.1 in rw (p.1, p.2) (early-row _ _ _ _ (calc_stand _ _ _ _ c.are_bad_starts-bad.ensures c.in_err-standing_row.ensures.row))

pub returns-then-has_misfit : goal.returns-then-has_misfit
unfolding later first_fitting
returns-then-has_misfit c = late _ _ _ 0 16 (calc_stand _ _ _ _ c.are_bad_starts-bad.ensures c.in_ok-standing_row.ensures.row) refl (search rules)

pub returns : goal.returns
unfolding later first_fitting
returns c = late _ _ _ 0 0 (calc_stand _ _ _ _ c.are_bad_starts-bad.ensures c.in_ok-standing_row.ensures.row) refl (search rules)
