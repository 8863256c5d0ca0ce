-- `move_consistency::ranges::sets_in_range`: what `fit` says of the sets so far. Assumes nothing.
use Rattle.graphs.specs.Bools.{Decides}
use Rattle.move_consistency.specs.Ranges.{SetsBelow}
use Rattle.move_consistency.proofs.ranges.sets_in_range.Given as goal

abbrev pub invariant-loop-x : goal.invariant-loop-x
invariant-loop-x l = Decides (SetsBelow l.sets.area.now l.sets.at l.sets.n l.x l.e) l.fit
