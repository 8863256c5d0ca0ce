-- The nodes that were gone through. Assumes nothing.
use Rattle.start_order.specs.Steps.{Passed}
use Rattle.start_order.proofs.turns.pass.Given as goal

abbrev pub invariant-loop-y : goal.invariant-loop-y
invariant-loop-y l = Passed l.nodes.area.numbers.now l.nodes.area.n l.y l.z l.initial.degrees l.degrees
