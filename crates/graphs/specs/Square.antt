-- Rows of numbers one behind the other, and the place x * n + y of a square of n rows of n numbers. Assumes nothing.
use Rattle.std.specs.Prelude.{◌≡◌, ℕ, zero, suc, ◌+◌, ◌*◌, ◌/◌, ◌%◌, ◌≤◌, ◌<◌}
use Rattle.std.proofs.Common.{sym, ap, ◌∙◌, mul-le-mul_right, suc-mul, mod-eq_of_lt, add-zero, arith}
use Rattle.std.proofs.Math.Nat.{mul-add-div_right, div-eq_of_lt, mul-add-mod_self_right}

-- a row before row n ends where row n starts, or earlier
pub row_in : (n c x : ℕ) → x < n → x * c + c ≤ n * c
row_in n c x h = omega (arith, mul-le-mul_right {m = suc x} {n = n} c h, suc-mul x c)

-- a square with a place has a row
pub square_some : (n i : ℕ) → i < n * n → 0 < n
square_some zero i h = absurd (omega arith)
square_some (suc n) i h = omega arith

pub index_lt : (n x y : ℕ) → x < n → y < n → x * n + y < n * n
index_lt n x y hx hy = omega (arith, row_in n n x hx)

pub index_div : (n x y : ℕ) → y < n → (x * n + y) / n ≡ x
index_div n x y hy = mul-add-div_right {m = n} (omega arith) x y ∙ ap (λ z. x + z) (div-eq_of_lt hy) ∙ add-zero x

pub index_mod : (n x y : ℕ) → y < n → (x * n + y) % n ≡ y
index_mod n x y hy = mul-add-mod_self_right x n y ∙ mod-eq_of_lt hy

pub index-row : (n x y x' y' : ℕ) → y < n → y' < n → x * n + y ≡ x' * n + y' → x ≡ x'
index-row n x y x' y' h h' e = sym (index_div n x y h) ∙ ap (λ z. z / n) e ∙ index_div n x' y' h'

pub index_column : (n x y x' y' : ℕ) → y < n → y' < n → x * n + y ≡ x' * n + y' → y ≡ y'
index_column n x y x' y' h h' e = sym (index_mod n x y h) ∙ ap (λ z. z % n) e ∙ index_mod n x' y' h'
