-- The nodes that were gone through. Assumes nothing.
use Rattle.start_order.specs.Roots.{Roots}
use Rattle.start_order.specs.Bits.{picks}
use Rattle.start_order.proofs.wanted.roots.Given as goal

abbrev pub invariant-loop-x : goal.invariant-loop-x
invariant-loop-x l = Roots (picks l.nodes.area.numbers.now l.nodes.area.n l.bit) l.nodes.area.n l.x l.marks l.stack l.height
