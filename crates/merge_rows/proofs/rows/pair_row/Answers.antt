-- Rows 14, 15 and 21, and then 16, 20 and 28. Assumes nothing.
use Rattle.std.proofs.Common.{refl, rules}
use Rattle.std.proofs.lemmas.Result.{err_from_is_err_and}
use Rattle.merge_state.specs.Table.{over_lists, bad_lists, later, first_fitting}
use Rattle.merge_laws.specs.Rows.{early-row, late}
use Rattle.merge_rows.proofs.rows.pair_row.Goals as goal

pub returns-in_err-area : goal.returns-in_err-area
unfolding over_lists bad_lists
returns-in_err-area c = let p = err_from_is_err_and c.from_residual.result c.from_residual.ensures.1 in rw (p.1, p.2) (early-row _ _ _ _ c.in_err-area.ensures.row)

pub returns-then-is_unmade : goal.returns-then-is_unmade
unfolding over_lists bad_lists later first_fitting
returns-then-is_unmade c = late _ _ _ 0 16 c.in_ok-area.ensures.row refl (search rules)

pub returns-then-eq : goal.returns-then-eq
unfolding over_lists bad_lists later first_fitting
returns-then-eq c = late _ _ _ 0 20 c.in_ok-area.ensures.row refl (search rules)

pub returns-then-is_gone : goal.returns-then-is_gone
unfolding over_lists bad_lists later first_fitting
returns-then-is_gone c = late _ _ _ 0 28 c.in_ok-area.ensures.row refl (search rules)

pub returns : goal.returns
unfolding over_lists bad_lists later first_fitting
returns c = late _ _ _ 0 0 c.in_ok-area.ensures.row refl (search rules)
