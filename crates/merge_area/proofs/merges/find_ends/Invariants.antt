-- Each round leads twice as far. Assumes nothing.
use Rattle.std.proofs.Common.{length}
use Rattle.merge_area.proofs.Merging.{Rounds}
use Rattle.merge_area.proofs.merges.find_ends.Given as goal

abbrev pub invariant-loop-round : goal.invariant-loop-round
invariant-loop-round l = Rounds (length l.fn.ends) l._round l.initial.ends l.ends
