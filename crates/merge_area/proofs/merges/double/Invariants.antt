-- The numbers below x are led on. Assumes nothing.
use Rattle.std.proofs.Common.{length}
use Rattle.merge_area.proofs.Merging.{Doubling}
use Rattle.merge_area.proofs.merges.double.Given as goal

abbrev pub invariant-loop-x : goal.invariant-loop-x
invariant-loop-x l = Doubling (length l.initial.ends) l.x l.initial.ends l.ends
