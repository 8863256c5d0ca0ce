-- `sets_are_distinct`: the sets so far are laid out. Assumes nothing.
use Rattle.std.proofs.Common.{ℕ}
use Rattle.equal_sets.specs.Laid.{Gives, Laid}
use Rattle.equal_sets.proofs.sets_are_distinct.Given as goal

abbrev pub invariant-loop-i : goal.invariant-loop-i
invariant-loop-i g l = (key : ℕ → ℕ) → Gives key l.a (goal.F-post g l.set) → Laid key l.i l.n l.initial.lanes l.lanes
