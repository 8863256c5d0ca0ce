-- `write_lanes`: what is left to write is `Writing`. Assumes nothing.
use Rattle.entry_set.specs.Sets.{number}
use Rattle.entry_set.proofs.Writing.{Writing}
use Rattle.entry_set.proofs.EntrySet.write_lanes.Given as goal

abbrev pub invariant-loop-j : goal.invariant-loop-j
invariant-loop-j l = Writing l.initial.area l.area l.at l.stride (number l.self) l.j
