-- How many nodes are white, and how far the cursors have to go. Assumes nothing.
use Prim.Native.Nat.{ℕ, zero, suc, ◌+◌, ◌<◌, ◌≤◌}
use native.Mathlib.Omega.{arith}
use mathlib.Core.Path.{◌≡◌, refl, ap}
use Rattle.graphs.specs.Total.{total, is0, whites, total_change, total-at}

-- g is f on the numbers below n, but at i
abbrev pub But : ℕ → ℕ → (ℕ → ℕ) → (ℕ → ℕ) → Type 0
But n i f g = (x : ℕ) → x < n → (x ≡ i → ⊥) → g x ≡ f x

pub not0 : (k : ℕ) → 1 ≤ k → is0 k ≡ 0
not0 zero h = absurd (omega arith)
not0 (suc k) h = refl

pub whites_but : (n : ℕ) (c c' : ℕ → ℕ) (j : ℕ) → j < n → But n j c c' → whites n c' + is0 (c j) ≡ whites n c + is0 (c' j)
unfolding whites
whites_but n c c' j jn co = total_change (λ x. is0 (c x)) (λ x. is0 (c' x)) n j jn (λ x b h. ap is0 (co x b h))

pub whites-all : (n : ℕ) (c : ℕ → ℕ) → ((x : ℕ) → x < n → c x ≡ 0) → whites n c ≡ n
unfolding whites total
whites-all zero c h = refl
whites-all (suc n) c h = omega (arith, whites-all n c (λ x b. h x (omega arith)), ap is0 (h n (omega arith)))

pub whites-none : (n : ℕ) (c : ℕ → ℕ) → ((x : ℕ) → x < n → c x ≡ 0 → ⊥) → whites n c ≡ 0
unfolding whites total
whites-none zero c h = refl
whites-none (suc n) c h = let k = h n (omega arith) in omega (arith, whites-none n c (λ x b. h x (omega arith)), not0 (c n) (omega arith))

pub room_for : (n : ℕ) (c : ℕ → ℕ) (sp fin j : ℕ) → whites n c + sp + fin ≡ n → j < n → c j ≡ 0 → sp + fin < n
unfolding whites
room_for n c sp fin j v jn new = omega (arith, total-at (λ x. is0 (c x)) n j jn, ap is0 new)
