-- Rows 14, 15 and 21, and then 15, 16, 28 and 18. Assumes nothing.
use Rattle.std.proofs.Common.{refl, rules}
use Rattle.std.proofs.lemmas.Result.{err_from_is_err_and}
use Rattle.merge_state.specs.Table.{over_lists, bad_lists, later, first_fitting}
use Rattle.merge_laws.specs.Rows.{early-row, late}
use Rattle.merge_rows.proofs.Laws.{few_candidates}
use Rattle.merge_rows.proofs.rows.pass_row.Goals as goal

pub returns-in_err-area : goal.returns-in_err-area
unfolding over_lists bad_lists
returns-in_err-area c = let p = err_from_is_err_and c.from_residual.result c.from_residual.ensures.1 in rw (p.1, p.2) (early-row _ _ _ _ c.in_err-area.ensures.row)

pub returns-then-is_other_length : goal.returns-then-is_other_length
unfolding over_lists bad_lists later first_fitting
returns-then-is_other_length c = late _ _ _ 0 15 c.in_ok-area.ensures.row refl (search rules)

pub returns-then-has_misfit : goal.returns-then-has_misfit
unfolding over_lists bad_lists later first_fitting
returns-then-has_misfit c = late _ _ _ 0 16 c.in_ok-area.ensures.row refl (search rules)

pub returns-then-some_gone : goal.returns-then-some_gone
unfolding over_lists bad_lists later first_fitting
returns-then-some_gone c = late _ _ _ 0 28 c.in_ok-area.ensures.row refl (search rules)

pub lacks_numbers-requires : goal.lacks_numbers-requires
lacks_numbers-requires c = few_candidates _ _ c.in_ok-area.area.headed c.count_candidates-n.ensures

pub returns-then-lacks_numbers : goal.returns-then-lacks_numbers
unfolding over_lists bad_lists later first_fitting
returns-then-lacks_numbers c = late _ _ _ 0 18 c.in_ok-area.ensures.row refl (search rules)

pub returns : goal.returns
unfolding over_lists bad_lists later first_fitting
returns c = late _ _ _ 0 0 c.in_ok-area.ensures.row refl (search rules)
