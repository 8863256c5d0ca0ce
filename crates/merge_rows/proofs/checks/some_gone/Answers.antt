-- Number by number. Assumes nothing.
use Rattle.std.proofs.Common.{sym, ◌∙◌, arith}
use Rattle.graphs.specs.Lists.{some_zero, none_more, some_found}
use Rattle.merge_rows.proofs.checks.some_gone.Goals as goal

pub loop-x-init : goal.loop-x-init
loop-x-init c = some_zero _

pub returns-then-is_gone : goal.returns-then-is_gone
returns-then-is_gone c = some_found _ _ _ (omega arith) (sym c.is_gone.ensures ∙ c.if-is_gone.true)

pub loop-x-preserved : goal.loop-x-preserved
loop-x-preserved c = none_more _ _ c.loop-x.invariant (sym c.is_gone.ensures ∙ c.if-is_gone.false)
