-- Walks along edges that are a test of two nodes, and the tests that compute whether there is one. Assumes nothing.
use Rattle.std.specs.Prelude.{ℕ, ◌≡◌, Bool, true, not, ◌&&◌, ◌||◌, List, [], ◌∷◌}
use Rattle.graphs.specs.Lists.{any, all}

-- a walk of one edge or more; it is closed where its two ends are one node
pub data Walk (e : ℕ → ℕ → Bool) : ℕ → ℕ → Type 0 where
  one : {x y : ℕ} → e x y ≡ true → Walk e x y
  more : {x y z : ℕ} → e x y ≡ true → Walk e y z → Walk e x z

-- x reaches y in one edge or more, by inner nodes of the list (Warshall)
unfoldable pub via : (ℕ → ℕ → Bool) → List ℕ → ℕ → ℕ → Bool
via e [] x y = e x y
via e (k ∷ ks) x y = via e ks x y || (via e ks x k && via e ks k y)

-- some node of the list is on a closed walk: "A cycle is a closed walk of at least one edge"
unfoldable pub cyclic : (ℕ → ℕ → Bool) → List ℕ → Bool
cyclic e ks = any (λ x. via e ks x x) ks

-- x is in the only cyclic component: it is on a closed walk, and on one with every node that is on one
unfoldable pub only : (ℕ → ℕ → Bool) → List ℕ → ℕ → Bool
only e ks x = via e ks x x && all (λ y. not (via e ks y y) || (via e ks x y && via e ks y x)) ks
