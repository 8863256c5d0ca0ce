-- Column by column. Assumes nothing.
use Rattle.std.proofs.Common.{sym, ◌∙◌}
use Rattle.graphs.specs.Lists.{some_zero, none_more, some_found}
use Rattle.merge_warning.specs.EndHits.{names_at}
use Rattle.merge_warning.proofs.counted.row_names.Goals as goal

pub loop-j-init : goal.loop-j-init
loop-j-init c = some_zero _

pub returns-then-is_named : goal.returns-then-is_named
returns-then-is_named c = some_found _ _ _ c.loop-j-test.true (sym (c.is_named.ensures ∙ names_at _ _ _ _ _ _ _) ∙ c.if-is_named.true)

pub loop-j-preserved : goal.loop-j-preserved
loop-j-preserved c = none_more _ _ c.loop-j.invariant (sym (c.is_named.ensures ∙ names_at _ _ _ _ _ _ _) ∙ c.if-is_named.false)
