-- `move_load_rows::sets::any_too_high` meets its contract. Assumes nothing.
use Rattle.std.proofs.Common.{arith, not, sym, ap, ◌∙◌}
use Rattle.graphs.specs.Lists.{some_zero, none_more, none_left, some_found}
use Rattle.move_ledger.specs.Loading.{row7}
use Rattle.move_load_view.specs.View.{lent_by}
use Rattle.move_load_rows.proofs.SetLaws.{set_in, reaches_is}
use Rattle.move_load_rows.proofs.sets.any_too_high.Goals as goal

pub loop-i-init : goal.loop-i-init
loop-i-init c = some_zero _

pub at-requires : goal.at-requires
at-requires c = set_in _ _ c.set_width-w.ensures c.requires c.loop-i.i c.loop-i-test.true

pub returns-then-not-in_range : goal.returns-then-not-in_range
unfolding row7
returns-then-not-in_range c = some_found _ _ _ c.loop-i-test.true (sym (reaches_is (lent_by c.args.load.now) c.args.sets.now c.set_width-w.ensures c.loop-i.i c.at.ensures.value c.in_range.ensures) ∙ ap not c.if-not-in_range.true)

pub loop-i-preserved : goal.loop-i-preserved
loop-i-preserved c = none_more _ _ c.loop-i.invariant (sym (reaches_is (lent_by c.args.load.now) c.args.sets.now c.set_width-w.ensures c.loop-i.i c.at.ensures.value c.in_range.ensures) ∙ ap not c.if-not-in_range.false)

pub returns : goal.returns
unfolding row7
returns c = none_left _ _ _ c.loop-i.invariant (omega arith)
