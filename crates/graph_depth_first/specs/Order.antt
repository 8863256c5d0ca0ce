-- The order in which a depth-first search finishes the nodes. Assumes nothing.
use Rattle.std.specs.Prelude.{ℕ, ◌<◌, ◌≤◌, ◌≡◌, ◌⊎◌, Bool, true}
use Rattle.graphs.specs.Walk.{Walk}

-- x reaches y in no step or more
abbrev pub Reach : (ℕ → ℕ → Bool) → ℕ → ℕ → Type 0
Reach e x y = (x ≡ y) ⊎ Walk e x y

-- a walk of no step or more, all of whose nodes have P
pub data WalkIn (e : ℕ → ℕ → Bool) (P : ℕ → Type 0) : ℕ → ℕ → Type 0 where
  here : {x : ℕ} → P x → WalkIn e P x x
  step : {x y z : ℕ} → P x → e x y ≡ true → WalkIn e P y z → WalkIn e P x z

-- The post-order o lists the n nodes, x at `place x`. What reaches r over nodes that finish no later than r, r reaches.
pub record Ordered (e : ℕ → ℕ → Bool) (n : ℕ) (o : ℕ → ℕ) : Type 0 where
  pub place : ℕ → ℕ
  pub inside : (x : ℕ) → x < n → place x < n
  pub holds : (x : ℕ) → x < n → o (place x) ≡ x
  pub node : (k : ℕ) → k < n → (o k < n) × (place (o k) ≡ k)
  pub back : (r x : ℕ) → r < n → WalkIn e (λ v. (v < n) × (place v ≤ place r)) x r → Reach e r x
