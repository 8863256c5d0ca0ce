-- The counter and the marks that a walk starts with. Assumes nothing.
use Rattle.std.specs.Prelude.{◌≡◌, refl, cond, List, ℕ, ◌+◌, length, replicate}
use Rattle.std.proofs.Common.{◌∙◌, eq-eqb, ne_eqb}
use Rattle.std.proofs.lemmas.List.{length-replicate}
use Rattle.layout.specs.Patch.{patch, patch-all}
use Rattle.move_area.specs.Calls.{last, next}
use Rattle.move_counter.specs.declared.WalkCounter.{WalkCounter}

-- the marks that a walk starts with: all cleared after the last value of the counter, else as they were
unfoldable pub unmarked : ℕ → List ℕ → List ℕ
unmarked counter marks = cond (last counter) (replicate (length marks) 0) marks

-- the counter raised
abbrev pub started : WalkCounter → WalkCounter
started c = record { mark = next c.mark }

-- the two ways to start
module _ (counter : ℕ) (marks : List ℕ) where
  pub start-last : {marks' : List ℕ} → counter ≡ 4294967295 → marks' ≡ patch 0 (replicate (length marks) 0) marks → (1 ≡ next counter) × (marks' ≡ unmarked counter marks)
  unfolding next unmarked
  start-last h e = rw (eq-eqb _ _ h) (refl, e ∙ patch-all (replicate (length marks) 0) marks (length-replicate (length marks) 0))

  pub start-more : (counter ≡ 4294967295 → ⊥) → (counter + 1 ≡ next counter) × (marks ≡ unmarked counter marks)
  unfolding next unmarked
  start-more h = rw (ne_eqb _ _ h) (refl, refl)
