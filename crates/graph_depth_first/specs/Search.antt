-- What a depth-first search keeps. A node's colour is 0 while it is white, 1 while it is gray, and k + 2 when it is black and was the k-th to finish.
-- Assumes nothing.
use Rattle.std.specs.Prelude.{ℕ, ◌+◌, ◌-◌, ◌*◌, ◌<◌, ◌≤◌, ◌≡◌, Bool, true}
use Rattle.graphs.specs.Total.{total, whites}
use Rattle.graphs.specs.Walk.{Walk}
use Rattle.graph_depth_first.specs.Order.{Reach}

-- Node x has d x neighbours, the i-th is f x i. Colours c, cursors u (how many neighbours are passed by), the stack s of the gray nodes, low a (how many
-- nodes had finished when a node was discovered), post-order o; sp nodes are on the stack, fin have finished.
pub record Search (e : ℕ → ℕ → Bool) (n : ℕ) (d : ℕ → ℕ) (f : ℕ → ℕ → ℕ) (c u s a o : ℕ → ℕ) (sp fin : ℕ) : Type 0 where
  pub count : whites n c + sp + fin ≡ n
  pub node : (p : ℕ) → p < sp → s p < n
  pub gray : (p : ℕ) → p < sp → c (s p) ≡ 1
  pub held : (x : ℕ) → x < n → c x ≡ 1 → (p : ℕ) × (p < sp) × (s p ≡ x)
  pub path : (p : ℕ) → p + 1 < sp → e (s p) (s (p + 1)) ≡ true
  pub apart : (p q : ℕ) → p < q → q < sp → s p ≡ s q → ⊥
  pub rising : (p q : ℕ) → p < q → q < sp → a (s p) ≤ a (s q)
  pub reach : (x : ℕ) → x < n → u x ≤ d x
  pub seen : (x i : ℕ) → x < n → i < u x → c (f x i) ≡ 0 → ⊥
  pub begun : (x : ℕ) → x < n → (c x ≡ 0 → ⊥) → a x ≤ fin
  pub below : (x : ℕ) → x < n → 2 ≤ c x → c x < fin + 2
  pub own : (x : ℕ) → x < n → 2 ≤ c x → a x + 2 ≤ c x
  pub out : (x y : ℕ) → x < n → 2 ≤ c x → e x y ≡ true → (c y ≡ 0 → ⊥) × (a y + 2 ≤ c x)
  pub over : (p v : ℕ) → p < sp → v < n → 2 ≤ c v → a (s p) + 2 ≤ c v → Walk e (s p) v × (a (s p) ≤ a v)
  pub nest : (r v : ℕ) → r < n → v < n → 2 ≤ c r → 2 ≤ c v → a r + 2 ≤ c v → c v ≤ c r → Reach e r v × (a r ≤ a v)
  pub put : (x : ℕ) → x < n → 2 ≤ c x → o (c x - 2) ≡ x
  pub got : (k : ℕ) → k < fin → (o k < n) × (c (o k) ≡ k + 2)

-- what it keeps while no gray neighbour is met: the neighbours passed by are black, and an edge from a black node leads to one that finished before
pub record Falls (e : ℕ → ℕ → Bool) (n : ℕ) (f : ℕ → ℕ → ℕ) (c u : ℕ → ℕ) : Type 0 where
  pub passed : (x i : ℕ) → x < n → i < u x → 2 ≤ c (f x i)
  pub falls : (x y : ℕ) → x < n → 2 ≤ c x → e x y ≡ true → (2 ≤ c y) × (c y < c x)

-- how far the cursors have still to go
unfoldable pub togo : ℕ → (ℕ → ℕ) → (ℕ → ℕ) → ℕ
togo n d u = total (λ x. d x - u x) n

-- a number that each step makes less
unfoldable pub size : ℕ → (ℕ → ℕ) → (ℕ → ℕ) → (ℕ → ℕ) → ℕ → ℕ
size n d c u sp = 2 * whites n c + sp + togo n d u
