-- Whether a start so far is above the next. Assumes nothing.
use Rattle.graphs.specs.Lists.{some_below}
use lib.Dec.{ltb}
use lib.ListN.{get_or}
use mathlib.Core.Path.{◌≡◌}
use Prim.Native.Nat.{◌+◌}
use Rattle.merge_rows.proofs.checks.is_falling.Given as goal

abbrev pub invariant-loop-i : goal.invariant-loop-i
invariant-loop-i l = (l.falls ≡ some_below (λ k. ltb (get_or l.starts (k + 1) 0) (get_or l.starts k 0)) l.i)
