-- One pair more. Assumes nothing.
use Rattle.std.proofs.Common.{refl, sym, ap, ◌∙◌, arith}
use Rattle.graphs.specs.Lists.{some_below, some_zero}
use Rattle.merge_state.specs.Table.{falling}
use Rattle.merge_rows.proofs.Laws.{some_more}
use Rattle.merge_rows.proofs.checks.is_falling.Goals as goal

pub loop-i-init : goal.loop-i-init
loop-i-init c = sym (some_zero _)

pub loop-i-preserved : goal.loop-i-preserved
loop-i-preserved c = some_more _ _ c.loop-i.invariant refl

pub returns : goal.returns
unfolding falling
returns c = c.loop-i.invariant ∙ ap (some_below _) (omega arith)
