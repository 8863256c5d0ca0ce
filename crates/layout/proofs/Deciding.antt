-- A test on every number below k. Assumes nothing.
use mathlib.Core.Path.{◌≡◌}
use mathlib.Core.Bool.{Bool}
use Prim.Native.Nat.{ℕ, ◌-◌, ◌≤◌, ◌<◌}
use native.Mathlib.Omega.{arith}
use lib.Dec.{eqb}
use borrow.Author.Tests.{eqb-true, eqb-false}
use Rattle.graphs.specs.Bools.{Decides, same_decides}

-- every number below k has P
abbrev pub Each : (ℕ → Type 0) → ℕ → Type 0
Each P k = (i : ℕ) → i < k → P i

-- no number is below 0
pub none_below : (f : ℕ → ℕ) (k b : ℕ) → b ≡ 0 → Decides (Each (λ i. f i < b) k) (eqb k 0)
none_below f k b z = record { right = λ h i y. absurd (omega (arith, eqb-true k 0 h)); wrong = λ h g. let n = eqb-false k 0 h in omega (arith, g 0 (omega arith)) }

-- below b is up to b - 1
pub below_up_to : (f : ℕ → ℕ) (k b : ℕ) {r : Bool} → (b ≡ 0 → ⊥) → Decides (Each (λ i. f i ≤ b - 1) k) r → Decides (Each (λ i. f i < b) k) r
below_up_to f k b n d = same_decides (λ g i y. omega (arith, g i y)) (λ g i y. omega (arith, g i y)) d
