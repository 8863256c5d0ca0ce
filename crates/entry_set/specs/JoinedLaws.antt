-- Laws of joined numbers and parts, for any number of bits. Assumes nothing.
use Prim.Native.Nat.{ℕ, zero, suc, ◌+◌, ◌*◌, ◌^◌, ◌/◌, ◌%◌, ◌<◌}
use Rattle.std.specs.Prelude.{◌≡◌, length, get_or}
use Rattle.std.proofs.Math.Path.{refl, sym, ap, ap₂}
use Rattle.std.proofs.Common.{◌∙◌, arith, mul_comm, mul-suc, div-lt_iff_lt-mul, pow-add}
use mathlib.Core.List.{List, [], ◌∷◌}
use Rattle.std.proofs.Math.Numerals.{unary_clauses}
use Rattle.std.proofs.Math.Nat.{mod-lt, div-add-mod}
use Rattle.std.proofs.Math.Arith.{digits_lt, digits_div, digits_mod, lt-one}
use Rattle.std.proofs.Math.Pow.{pow_pos}
use Rattle.entry_set.specs.Joined.{joined, parts, halves}

-- 2 ^ (b * (k + 1))
pub wider : (b k : ℕ) → 2 ^ (b * suc k) ≡ 2 ^ (b * k) * 2 ^ b
wider b k = ap (λ (e : ℕ). 2 ^ e) (mul-suc b k) ∙ pow-add 2 (b * k) b

get_d_nil : (i : ℕ) → ◌≡◌ {A = ℕ} (get_or [] i 0) 0
get_d_nil zero = refl
get_d_nil (suc i) = refl

module _ (b : ℕ) where
  -- the lowest number first, as the library's laws on digits have it
  pub turned : (x y : ℕ) → x + 2 ^ b * y ≡ y * 2 ^ b + x
  turned x y = omega (arith, mul_comm (2 ^ b) y)

  pub low_part : (x y : ℕ) → x < 2 ^ b → (x + 2 ^ b * y) % 2 ^ b ≡ x
  low_part x y h = ap (λ (n : ℕ). n % 2 ^ b) (turned x y) ∙ digits_mod y h

  pub high_part : (x y : ℕ) → x < 2 ^ b → (x + 2 ^ b * y) / 2 ^ b ≡ y
  high_part x y h = ap (λ (n : ℕ). n / 2 ^ b) (turned x y) ∙ digits_div y h

  pub length-parts : (k X : ℕ) → length (parts b k X) ≡ k
  unfolding parts
  length-parts zero X = refl
  length-parts (suc k) X = ap suc (length-parts k (X / 2 ^ b))

  pub parts_below : (k X i : ℕ) → get_or (parts b k X) i 0 < 2 ^ b
  unfolding parts
  parts_below zero X zero = pow_pos b
  parts_below zero X (suc i) = pow_pos b
  parts_below (suc k) X zero = mod-lt X (pow_pos b)
  parts_below (suc k) X (suc i) = parts_below k (X / 2 ^ b) i

  pub joined-below : (l : List ℕ) → ((i : ℕ) → get_or l i 0 < 2 ^ b) → joined b l < 2 ^ (b * length l)
  unfolding joined
  joined-below [] small = pow_pos (b * 0)
  joined-below (x ∷ xs) small =
      rw (wider b (length xs), turned x (joined b xs)) (digits_lt (joined-below xs (λ i. small (suc i))) (small 0))

  pub joined-parts : (k X : ℕ) → X < 2 ^ (b * k) → joined b (parts b k X) ≡ X
  unfolding joined parts
  joined-parts zero X h = sym (lt-one (simp unary_clauses at h))
  joined-parts (suc k) X h =
      let rest : X / 2 ^ b < 2 ^ (b * k) = (div-lt_iff_lt-mul (pow_pos b)).1 (rw (← wider b k) h) in
      rw (joined-parts k (X / 2 ^ b) rest) (omega (arith, div-add-mod X (2 ^ b)))

  pub parts-joined : (l : List ℕ) → ((i : ℕ) → get_or l i 0 < 2 ^ b) → parts b (length l) (joined b l) ≡ l
  unfolding joined parts
  parts-joined [] small = refl
  parts-joined (x ∷ xs) small =
      ap₂ (λ (y : ℕ) (ys : List ℕ). y ∷ ys) (low_part x (joined b xs) (small 0))
      (ap (parts b (length xs)) (high_part x (joined b xs) (small 0)) ∙ parts-joined xs (λ i. small (suc i)))

-- numbers of 64 bits as twice as many of 32
pub half_low : (l : List ℕ) (i : ℕ) → get_or (halves l) (2 * i) 0 ≡ get_or l i 0 % 2 ^ 32
unfolding halves
half_low [] i = get_d_nil (2 * i) ∙ ap (λ (n : ℕ). n % 2 ^ 32) (sym (get_d_nil i))
half_low (x ∷ xs) zero = refl
half_low (x ∷ xs) (suc i) = ap (λ (n : ℕ). get_or (halves (x ∷ xs)) n 0) {x = 2 * suc i} {y = suc (suc (2 * i))} (omega arith) ∙ half_low xs i

pub half_high : (l : List ℕ) (i : ℕ) → get_or (halves l) (2 * i + 1) 0 ≡ get_or l i 0 / 2 ^ 32
unfolding halves
half_high [] i = get_d_nil (2 * i + 1) ∙ ap (λ (n : ℕ). n / 2 ^ 32) (sym (get_d_nil i))
half_high (x ∷ xs) zero = refl
half_high (x ∷ xs) (suc i) = ap (λ (n : ℕ). get_or (halves (x ∷ xs)) n 0) {x = 2 * suc i + 1} {y = suc (suc (2 * i + 1))} (omega arith) ∙ half_high xs i

-- the numbers of 32 bits of X are the halves of those of 64 bits
pub parts-halves : (k X : ℕ) → parts 32 (2 * k) X ≡ halves (parts 64 k X)
unfolding parts halves
parts-halves zero X = refl
parts-halves (suc k) X =
    ap (λ (n : ℕ). parts 32 n X) {x = 2 * suc k} {y = suc (suc (2 * k))} (omega arith)
    ∙ ap₂ (λ (y : ℕ) (ys : List ℕ). y ∷ ys) {x = X % 2 ^ 32} {y = X % 2 ^ 64 % 2 ^ 32} (omega arith)
    (ap₂ (λ (y : ℕ) (ys : List ℕ). y ∷ ys) {x = X / 2 ^ 32 % 2 ^ 32} {y = X % 2 ^ 64 / 2 ^ 32} (omega arith)
    (ap (parts 32 (2 * k)) {x = X / 2 ^ 32 / 2 ^ 32} {y = X / 2 ^ 64} (omega arith) ∙ parts-halves k (X / 2 ^ 64)))
