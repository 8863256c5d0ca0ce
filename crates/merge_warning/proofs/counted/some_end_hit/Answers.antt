-- Row by row. Assumes nothing.
use Rattle.std.proofs.Common.{sym, ◌∙◌}
use Rattle.graphs.specs.Lists.{some_zero, none_more, some_found}
use Rattle.merge_warning.proofs.counted.some_end_hit.Goals as goal

pub loop-i-init : goal.loop-i-init
loop-i-init c = some_zero _

pub returns-then-end_hits : goal.returns-then-end_hits
returns-then-end_hits c = some_found _ _ _ c.loop-i-test.true (sym c.end_hits.ensures ∙ c.if-end_hits.true)

pub loop-i-preserved : goal.loop-i-preserved
loop-i-preserved c = none_more _ _ c.loop-i.invariant (sym c.end_hits.ensures ∙ c.if-end_hits.false)
