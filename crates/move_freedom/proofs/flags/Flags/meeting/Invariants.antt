-- The nodes up to x that meet are counted. Assumes nothing.
use Rattle.std.proofs.Common.{◌≡◌}
use Rattle.graphs.specs.Count.{count}
use Rattle.move_freedom.specs.Tally.{both}
use Rattle.move_freedom.proofs.flags.Flags.meeting.Given as goal

abbrev pub invariant-loop-x : goal.invariant-loop-x
invariant-loop-x l = l.all ≡ count (both l.self) l.x
