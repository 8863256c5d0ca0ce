-- The targets of the slots up to k that pass are flagged. Assumes nothing.
use Rattle.std.proofs.Common.{◌≡◌, ℕ, Bool}
use Rattle.move_freedom.specs.Steps.{Flagged}
use Rattle.move_freedom.proofs.steps.flag_targets.Given as goal

abbrev pub invariant-loop-k : goal.invariant-loop-k
invariant-loop-k g l = (test : ℕ → ℕ → Bool) → ((u v : ℕ) (r : Bool) → goal.F-post g l.passes u v r → r ≡ test u v) → Flagged test l.slots.sources.now l.slots.targets.now l.k l.initial.flags l.flags
