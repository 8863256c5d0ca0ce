-- Laws of the single bit: single_bit X is e exactly where X is {e}, that is 2 ^ e. Assumes nothing.
use Rattle.std.specs.Prelude.{ℕ, zero, suc, ◌^◌, ◌<◌, ◌≤◌, ◌≡◌, refl, Bool, true, false, cond, eqb}
use Rattle.std.proofs.Common.{sym, ap, ◌∙◌, arith, eqb-true, eq-eqb, ne_eqb}
use Rattle.std.proofs.Math.Decide.{ℕ_discrete}
use Rattle.std.proofs.Math.Pow.{pow-lt}
use Rattle.entry_set.specs.Sets.{bit_below, single_bit}

found : (k e : ℕ) → e < k → bit_below k (2 ^ e) ≡ e
unfolding bit_below
found zero e h = absurd (omega arith)
found (suc k) e h =
    elim (ℕ_discrete e k) [
      | yes q ↦ rw (eq-eqb (2 ^ e) (2 ^ k) (ap (λ (n : ℕ). 2 ^ n) q)) (sym q)
      | no q ↦ let far : 2 ^ e < 2 ^ k = pow-lt (omega arith) in rw (ne_eqb (2 ^ e) (2 ^ k) (omega arith)) (found k e (omega arith))
    ]

only : (k X : ℕ) → bit_below k X < 256 → X ≡ 2 ^ bit_below k X
unfolding bit_below
only zero X h = absurd (omega arith)
only (suc k) X h = go (only k X) (eqb X (2 ^ k)) refl h
  where
    go : (bit_below k X < 256 → X ≡ 2 ^ bit_below k X) → (t : Bool) → eqb X (2 ^ k) ≡ t → cond t k (bit_below k X) < 256 → X ≡ 2 ^ cond t k (bit_below k X)
    go rest true q h = eqb-true X (2 ^ k) q
    go rest false q h = rest h

up_to : (k X : ℕ) → k ≤ 256 → bit_below k X ≤ 256
unfolding bit_below
up_to zero X h = omega arith
up_to (suc k) X h = go (up_to k X (omega arith)) (eqb X (2 ^ k))
  where
    go : bit_below k X ≤ 256 → (t : Bool) → cond t k (bit_below k X) ≤ 256
    go rest true = omega arith
    go rest false = rest

pub single_power : (e : ℕ) → e < 256 → single_bit (2 ^ e) ≡ e
single_power = found 256

pub single_only : (X : ℕ) → single_bit X < 256 → X ≡ 2 ^ single_bit X
single_only = only 256

pub single_le : (X : ℕ) → single_bit X ≤ 256
single_le X = up_to 256 X (omega arith)

-- no bit below 256 is the only one
pub single_none : (X : ℕ) → ((e : ℕ) → e < 256 → X ≡ 2 ^ e → ⊥) → single_bit X ≡ 256
single_none X h =
    elim (ℕ_discrete (single_bit X) 256) [
      | yes q ↦ q
      | no q ↦ let less : single_bit X < 256 = omega (arith, single_le X) in absurd (h (single_bit X) less (single_only X less))
    ]

-- the test for {e}, by number and by bit
pub single_eqb : (X e : ℕ) → e < 256 → eqb X (2 ^ e) ≡ eqb (single_bit X) e
single_eqb X e h =
    elim (ℕ_discrete X (2 ^ e)) [
      | yes q ↦ eq-eqb X (2 ^ e) q ∙ sym (eq-eqb (single_bit X) e (ap single_bit q ∙ single_power e h))
      | no q ↦ ne_eqb X (2 ^ e) q ∙ sym (ne_eqb (single_bit X) e (λ r. q (single_only X (omega (arith, r)) ∙ ap (λ (n : ℕ). 2 ^ n) r)))
    ]
