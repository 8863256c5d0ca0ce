-- What a merge does to each chunk's dependencies. Assumes nothing.
use Rattle.std.specs.Prelude.{ℕ, ◌≡◌, Bool, false, not, ◌&&◌, ◌||◌, eqb}
use Rattle.std.proofs.Common.{◌∙◌}
use Rattle.merge_state.specs.State.{put, put_same, put_other}
use Rattle.merge_state.specs.Methods.{absorbed}

-- what a merge does to each row, and to each side effect
abbrev pub union : (ℕ → Bool) → (ℕ → Bool) → ℕ → ℕ → Bool
union a b t y = (a y || b y) && not (eqb y t)

module _ (d : ℕ → ℕ → Bool) (t s : ℕ) where
  pub absorbed-source : absorbed d t s s ≡ λ y. false
  unfolding absorbed
  absorbed-source = put_same (put d t (union (d t) (d s) t)) s (λ y. false)

  pub absorbed-target : (t ≡ s → ⊥) → absorbed d t s t ≡ union (d t) (d s) t
  unfolding absorbed
  absorbed-target h = put_other (put d t (union (d t) (d s) t)) s (λ y. false) t h ∙ put_same d t (union (d t) (d s) t)

  pub absorbed-other : (x : ℕ) → (x ≡ t → ⊥) → (x ≡ s → ⊥) → absorbed d t s x ≡ d x
  unfolding absorbed
  absorbed-other x a b = put_other (put d t (union (d t) (d s) t)) s (λ y. false) x b ∙ put_other d t (union (d t) (d s) t) x a
