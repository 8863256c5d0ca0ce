-- `move_slots::slots::entry_targets` meets its contract. Assumes nothing.
use Rattle.move_slots.specs.Written.{Written}
use Rattle.move_slots.specs.Slots.{entry_target}
use Rattle.move_slots.proofs.slots.entry_targets.Given as goal

abbrev pub invariant-loop-k : goal.invariant-loop-k
invariant-loop-k l = Written (entry_target l.load.dependencies.now l.nodes) 0 l.k l.initial.targets l.targets
