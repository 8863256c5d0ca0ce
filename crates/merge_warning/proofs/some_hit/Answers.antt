-- Chunk by chunk. Assumes nothing.
use Rattle.std.proofs.Common.{sym, ◌∙◌}
use Rattle.graphs.specs.Lists.{some_zero, none_more, some_found}
use Rattle.merge_warning.proofs.some_hit.Goals as goal

pub loop-x-init : goal.loop-x-init
loop-x-init c = some_zero _

pub returns-then-hits : goal.returns-then-hits
returns-then-hits c = some_found _ _ _ c.loop-x-test.true (sym c.hits.ensures ∙ c.if-hits.true)

pub loop-x-preserved : goal.loop-x-preserved
loop-x-preserved c = none_more _ _ c.loop-x.invariant (sym c.hits.ensures ∙ c.if-hits.false)
