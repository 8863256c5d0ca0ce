-- Rows 14, 15 and 21, and then 16, 18 and 19. Assumes nothing.
use Rattle.std.proofs.Common.{refl, rules, ap, not}
use Rattle.std.proofs.lemmas.Result.{err_from_is_err_and}
use Rattle.entry_set.specs.SetLaws.{legal-short}
use Rattle.merge_state.specs.Table.{over_lists, bad_lists, later, first_fitting}
use Rattle.merge_laws.specs.Rows.{early-row, late, stood}
use Rattle.merge_rows.proofs.rows.init_row.Goals as goal

pub returns-in_err-area : goal.returns-in_err-area
unfolding over_lists bad_lists
returns-in_err-area c = let p = err_from_is_err_and c.from_residual.result c.from_residual.ensures.1 in rw (p.1, p.2) (early-row _ _ _ _ c.in_err-area.ensures.row)

pub is_legal-requires : goal.is_legal-requires
is_legal-requires c = (stood _ _ _ _ c.in_ok-area.ensures.row refl).headed.within.bits

pub from_list-requires : goal.from_list-requires
from_list-requires c = legal-short _ c.args.bits.now (stood _ _ _ _ c.in_ok-area.ensures.row refl).headed.within.bits c.is_legal.ensures (ap not c.if-not-is_legal.false)

pub returns-then-sizes-m : goal.returns-then-sizes-m
unfolding over_lists bad_lists later first_fitting
returns-then-sizes-m c = late _ _ _ 0 16 c.in_ok-area.ensures.row refl (search rules)

pub returns-then-lacks : goal.returns-then-lacks
unfolding over_lists bad_lists later first_fitting
returns-then-lacks c = late _ _ _ 0 18 c.in_ok-area.ensures.row refl (search rules)

pub returns-then-full : goal.returns-then-full
unfolding over_lists bad_lists later first_fitting
returns-then-full c = late _ _ _ 0 19 c.in_ok-area.ensures.row refl (search rules)

pub returns : goal.returns
unfolding over_lists bad_lists later first_fitting
returns c = late _ _ _ 0 0 c.in_ok-area.ensures.row refl (search rules)
