-- One step is taken from one chunk more. Assumes nothing.
use Rattle.std.proofs.Common.{sym, ap, ◌∙◌, arith}
use Rattle.merge_area.specs.Layout.{cell}
use Rattle.merge_area.specs.Merged.{into-at}
use Rattle.merge_area.proofs.Merging.{stepped-none, stepped-more, stepped-done}
use Rattle.merge_area.proofs.merges.take_step.Goals as goal

pub loop-x-init : goal.loop-x-init
loop-x-init c = stepped-none _ _ _ (omega arith)

pub loop-x-preserved : goal.loop-x-preserved
loop-x-preserved c = stepped-more _ _ _ _ c.loop-x.invariant c.requires.range c.loop-x-test.true (ap (λ i. cell c.args.area.now i) c.into.ensures ∙ sym (into-at _ _ _ c.requires.on (omega arith))) c.step_of.ensures

pub returns : goal.returns
returns c = stepped-done _ _ c.loop-x.invariant (omega arith)
