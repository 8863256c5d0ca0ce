-- `move_slots::slots::tally` meets its contract. Assumes nothing.
use Rattle.move_slots.proofs.Tallying.{Counts}
use Rattle.move_slots.proofs.slots.tally.Given as goal

abbrev pub invariant-loop-node : goal.invariant-loop-node
invariant-loop-node l = Counts l.nodes l.node-index l.counts
