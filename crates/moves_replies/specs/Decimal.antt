-- A number in base ten. Assumes nothing.
use Rattle.std.specs.Prelude.{◌≡◌, refl, Bool, true, false, cond, List, [], ◌∷◌, ◌++◌, ℕ, zero, suc, ◌+◌, ◌-◌, ◌*◌, ◌/◌, ◌%◌, ◌^◌, ◌≤◌, ◌<◌, ltb, length}
use Rattle.std.proofs.Common.{ap, arith, pow-add, length-append, lt-ltb, le-ltb}
use Rattle.std.proofs.Math.Decide.{dec_lt}
use Rattle.std.proofs.Math.Numerals.{unary_clauses}
use Rattle.io.specs.Digits.{hex_digit_ascii, last_digits, IsDigitCount}

-- the digits of n as ASCII bytes, the highest first and no 0 in front, where n has at most k of them
unfoldable pub decimal_in : ℕ → ℕ → List ℕ
decimal_in zero n = []
decimal_in (suc k) n = cond (ltb n 10) ((48 + n) ∷ []) (decimal_in k (n / 10) ++ ((48 + n % 10) ∷ []))

-- a number below 10 ^ 20, and so every number of 64 bits, in base ten
abbrev pub decimal : ℕ → List ℕ
decimal = decimal_in 20

pub decimal_long : (k n : ℕ) → length (decimal_in k n) ≤ k
unfolding decimal_in
decimal_long zero n = omega arith
decimal_long (suc k) n = go (ltb n 10) (decimal_long k (n / 10))
  where
    go : (t : Bool) → length (decimal_in k (n / 10)) ≤ k → length (cond t ((48 + n) ∷ []) (decimal_in k (n / 10) ++ ((48 + n % 10) ∷ []))) ≤ suc k
    go true h = omega arith
    go false h = simp length-append (omega arith)

digit : (n : ℕ) → hex_digit_ascii (n % 10) ≡ 48 + n % 10
digit n = rw (lt-ltb (n % 10) 10 (omega arith)) refl

one : (j : ℕ) → 1 ≤ 10 ^ j
one zero = omega arith
one (suc j) = simp unary_clauses (omega (arith, one j))

-- a number of 64 bits has at most 20 digits
pub few : (n r : ℕ) → n < 18446744073709551616 → IsDigitCount 10 1 n r → r ≤ 20
few n r b h = go (dec_lt 20 r)
  where
    go : Dec (20 < r) → r ≤ 20
    go (no z) = omega arith
    go (yes z) =
        let e : r - 1 ≡ 20 + (r - 21) = omega arith in
        let p : 10 ^ 20 * 10 ^ (r - 21) ≤ n = rw (e, pow-add 10 20 (r - 21)) at (h.2 (omega arith)) in
        absurd (omega (arith, p, one (r - 21)))

-- the fewest digits that hold n are those of `decimal_in`
pub digits_decimal : (f r n : ℕ) → r ≤ f → IsDigitCount 10 1 n r → last_digits 10 r n ≡ decimal_in f n
unfolding decimal_in
digits_decimal zero r n b h = absurd (omega (arith, h.0))
digits_decimal (suc f) zero n b h = absurd (omega (arith, h.0))
digits_decimal (suc f) (suc zero) n b h =
    let l : n < 10 = omega (arith, h.1) in
    let e : n % 10 ≡ n = omega arith in
    rw (lt-ltb n 10 l, digit n) (ap (λ (m : ℕ). (48 + m) ∷ []) e)
digits_decimal (suc f) (suc (suc k)) n b h =
    let p : 10 ^ k * 10 ≤ n = simp unary_clauses at (h.2 (omega arith)) in
    let q : n < 10 ^ k * 10 * 10 = simp unary_clauses at h.1 in
    let g : 10 ≤ n = omega (arith, p, one k) in
    rw (le-ltb n 10 g, digit n, digits_decimal f (suc k) (n / 10) (omega arith) (omega arith, simp unary_clauses (omega (arith, q)), λ z. simp unary_clauses (omega (arith, p)))) refl
