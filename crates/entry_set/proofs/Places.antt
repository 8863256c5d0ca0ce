-- The numbers of a set by their place: in a list of at most four, in the words of 32 bits, and in the lanes of an area. Assumes nothing.
use Prim.Native.Nat.{ℕ, ◌+◌, ◌*◌, ◌/◌, ◌%◌, ◌^◌, ◌≤◌}
use mathlib.Core.Path.{◌≡◌, refl, sym, ap, ◌∙◌}
use mathlib.Core.List.{List, [], ◌∷◌}
use native.Mathlib.Omega.{arith}
use lib.ListN.{length, get_or}
use Rattle.entry_set.specs.Joined.{joined, parts, halves}
use Rattle.entry_set.specs.JoinedLaws.{parts-halves, half_low, half_high}
use Rattle.entry_set.specs.Sets.{value, words}
use Rattle.entry_set.specs.Lanes.{strided, lanes}

-- a list of at most four numbers, 0 past its end
whole : (l : List ℕ) → length l ≤ 4 → value (get_or l 0 0 ∷ get_or l 1 0 ∷ get_or l 2 0 ∷ get_or l 3 0 ∷ []) ≡ value l
unfolding joined
whole [] h = refl
whole (a ∷ []) h = refl
whole (a ∷ b ∷ []) h = refl
whole (a ∷ b ∷ c ∷ []) h = refl
whole (a ∷ b ∷ c ∷ d ∷ []) h = refl
whole (a ∷ b ∷ c ∷ d ∷ e ∷ l) h = absurd (omega arith)

pub four_of : (l : List ℕ) → length l ≤ 4 → {a b c d : ℕ} → a ≡ get_or l 0 0 → b ≡ get_or l 1 0 → c ≡ get_or l 2 0 → d ≡ get_or l 3 0 → value (a ∷ b ∷ c ∷ d ∷ []) ≡ value l
four_of l h p q r s = rw (p, q, r, s) (whole l h)

-- the number of 32 bits at j is half of that of 64 bits at j / 2
pub word_low : (X j : ℕ) {x r : ℕ} → x ≡ get_or (words 4 X) (j / 2) 0 → r ≡ x % 2 ^ 32 → j % 2 ≡ 0 → r ≡ get_or (parts 32 8 X) j 0
word_low X j e q h =
    q ∙ ap (λ (n : ℕ). n % 2 ^ 32) e ∙ sym (half_low (words 4 X) (j / 2)) ∙ ap (λ (i : ℕ). get_or (halves (words 4 X)) i 0) {x = 2 * (j / 2)} {y = j} (omega arith)
    ∙ ap (λ (l : List ℕ). get_or l j 0) (sym (parts-halves 4 X))

pub word_high : (X j : ℕ) {x r : ℕ} → x ≡ get_or (words 4 X) (j / 2) 0 → r ≡ x / 2 ^ 32 → (j % 2 ≡ 0 → ⊥) → r ≡ get_or (parts 32 8 X) j 0
word_high X j e q h =
    q ∙ ap (λ (n : ℕ). n / 2 ^ 32) e ∙ sym (half_high (words 4 X) (j / 2)) ∙ ap (λ (i : ℕ). get_or (halves (words 4 X)) i 0) {x = 2 * (j / 2) + 1} {y = j} (omega arith)
    ∙ ap (λ (l : List ℕ). get_or l j 0) (sym (parts-halves 4 X))

pair : (x y Z : ℕ) → x + 2 ^ 32 * y + 2 ^ 64 * Z ≡ x + 2 ^ 32 * (y + 2 ^ 32 * Z)
pair x y Z = omega arith

-- four pairs of numbers of 32 bits
pub pairs : (l : List ℕ) (at stride : ℕ) {a b c d : ℕ}
    → a ≡ get_or l (at + 0 * stride) 0 + 2 ^ 32 * get_or l (at + 1 * stride) 0
    → b ≡ get_or l (at + 2 * stride) 0 + 2 ^ 32 * get_or l (at + 3 * stride) 0
    → c ≡ get_or l (at + 4 * stride) 0 + 2 ^ 32 * get_or l (at + 5 * stride) 0
    → d ≡ get_or l (at + 6 * stride) 0 + 2 ^ 32 * get_or l (at + 7 * stride) 0
    → value (a ∷ b ∷ c ∷ d ∷ []) ≡ lanes l at stride
unfolding joined strided
pairs l at stride p q r s =
    let e0 : at + 0 * stride ≡ at = omega arith in
    let e1 : at + 1 * stride ≡ at + stride = omega arith in
    let e2 : at + 2 * stride ≡ at + stride + stride = omega arith in
    let e3 : at + 3 * stride ≡ at + stride + stride + stride = omega arith in
    let e4 : at + 4 * stride ≡ at + stride + stride + stride + stride = omega arith in
    let e5 : at + 5 * stride ≡ at + stride + stride + stride + stride + stride = omega arith in
    let e6 : at + 6 * stride ≡ at + stride + stride + stride + stride + stride + stride = omega arith in
    let e7 : at + 7 * stride ≡ at + stride + stride + stride + stride + stride + stride + stride = omega arith in
    rw (p, q, r, s, e0, e1, e2, e3, e4, e5, e6, e7) (simp pair)
