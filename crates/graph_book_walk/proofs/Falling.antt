-- The number that each call makes less, over the white nodes and the edges that remain. Assumes nothing.
use Prim.Native.Nat.{ℕ, zero, suc, ◌+◌, ◌*◌, ◌<◌, ◌≤◌}
use native.Mathlib.Omega.{arith}
use native.Mathlib.Decide.{ℕ_discrete}
use native.Mathlib.Nat.{suc-mul, mul-le-mul_right}
use native.Mathlib.Numerals.{add-one}
use mathlib.Core.Path.{◌≡◌, sym, ap, ◌∙◌}
use mathlib.Core.List.{List}
use lib.ListN.{length}
use Rattle.graphs.specs.Total.{total, is0, is0_le, whites}
use Rattle.graph_neighbours.specs.Lists.{deg, Graph}
use Rattle.graph_book_walk.specs.Book.{Grown}

-- w white nodes, and r of a list of m edges remain
unfoldable pub falling : ℕ → ℕ → ℕ → ℕ
falling w m r = w * (m + 1) + r

-- a white node turns gray: its edges are fewer than all
pub falls_open : (w v m r : ℕ) → v + 1 ≡ w → r ≤ m → falling v m r < falling w m 0
unfolding falling
falls_open w v m r q b =
    let k : w * (m + 1) ≡ v * (m + 1) + (m + 1) = ap (λ z. z * (m + 1)) (sym q ∙ add-one v) ∙ suc-mul v (m + 1) in
    omega arith

-- an edge is taken, and there are no more white nodes than before
pub falls_edges : (w v m r : ℕ) → v ≤ w → 0 < r → falling v m 0 < falling w m r
unfolding falling
falls_edges w v m r q b = let k : v * (m + 1) ≤ w * (m + 1) = mul-le-mul_right (m + 1) q in omega arith

total_mono : (f g : ℕ → ℕ) (k : ℕ) → ((i : ℕ) → i < k → g i ≤ f i) → total g k ≤ total f k
unfolding total
total_mono f g zero h = omega arith
total_mono f g (suc k) h = omega (arith, h k (omega arith), total_mono f g k (λ i b. h i (omega arith)))

pub grown_whites : {n : ℕ} {c c' : ℕ → ℕ} → Grown n c c' → whites n c' ≤ whites n c
unfolding whites
grown_whites {n} {c} {c'} v = total_mono (λ x. is0 (c x)) (λ x. is0 (c' x)) n (λ x b. elim (ℕ_discrete (c x) 0) [
  | yes q ↦ omega (arith, ap is0 q, is0_le (c' x))
  | no q ↦ omega (arith, ap is0 (v.known x b q))
])

pub deg_le : {starts list : List ℕ} {n : ℕ} → Graph starts list n → (x : ℕ) → x < n → deg starts x ≤ length list
deg_le g x b = omega (arith, g.inside x b)
