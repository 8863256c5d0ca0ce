-- `move_slots::slots::facade_slots` meets its contract. Assumes nothing.
use Rattle.move_slots.specs.Written.{Written}
use Rattle.move_slots.specs.Slots.{facade_source, facade_target}
use Rattle.move_slots.proofs.slots.facade_slots.Given as goal

abbrev pub invariant-loop-bit : goal.invariant-loop-bit
invariant-loop-bit l = Written (facade_source l.load.hosts.now l.facade) l.load.entries l.bit l.initial.sources l.sources × Written (facade_target l.load.hosts.now l.nodes l.facade) l.load.entries l.bit l.initial.targets l.targets
