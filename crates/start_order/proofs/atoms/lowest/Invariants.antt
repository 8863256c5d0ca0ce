-- The atoms that were gone through. Assumes nothing.
use Rattle.start_order.specs.Lowest.{atom_node, Lowest}
use Rattle.start_order.proofs.atoms.lowest.Given as goal

abbrev pub invariant-loop-i : goal.invariant-loop-i
invariant-loop-i l = Lowest (atom_node l.nodes.area.numbers.now l.nodes.area.n) l.i l.a l.low
