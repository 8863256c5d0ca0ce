-- Set by set. Assumes nothing.
use Rattle.std.proofs.Common.{sym, ap, not, ◌∙◌, arith}
use Rattle.graphs.specs.Lists.{some_zero, none_more, some_found, none_left}
use Rattle.merge_area.proofs.Laws.{range_eq}
use Rattle.merge_area.proofs.Area.sets_out_of_range.Goals as goal

pub loop-i-init : goal.loop-i-init
loop-i-init c = some_zero _

pub returns-then-not-in_range : goal.returns-then-not-in_range
returns-then-not-in_range c = some_found _ _ _ (omega arith) (sym (range_eq _ _ _ (rw c.places-places.ensures at c.set_of.ensures) c.in_range.ensures) ∙ ap not c.if-not-in_range.true)

pub loop-i-preserved : goal.loop-i-preserved
loop-i-preserved c = none_more _ _ c.loop-i.invariant (sym (range_eq _ _ _ (rw c.places-places.ensures at c.set_of.ensures) c.in_range.ensures) ∙ ap not c.if-not-in_range.false)

pub returns : goal.returns
returns c = none_left _ _ _ c.loop-i.invariant (omega arith)
