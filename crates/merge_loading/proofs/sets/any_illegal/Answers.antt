-- One set more at each turn, until one is illegal. Assumes nothing.
use Rattle.std.proofs.Common.{◌∙◌, sym, ap, not}
use Rattle.graphs.specs.Lists.{none_more, some_found, some_zero}
use Rattle.merge_loading.specs.Sets.{illegal_is}
use Rattle.merge_loading.proofs.sets.any_illegal.Goals as goal

pub loop-i-init : goal.loop-i-init
loop-i-init c = some_zero _

pub returns-then-not-in_range : goal.returns-then-not-in_range
returns-then-not-in_range c = some_found _ _ _ c.loop-i-test.true (sym (illegal_is c.requires _ c.loop-i-test.true c.at.ensures c.in_range.ensures) ∙ ap not c.if-not-in_range.true)

pub loop-i-preserved : goal.loop-i-preserved
loop-i-preserved c = none_more _ _ c.loop-i.invariant (sym (illegal_is c.requires _ c.loop-i-test.true c.at.ensures c.in_range.ensures) ∙ ap not c.if-not-in_range.false)
