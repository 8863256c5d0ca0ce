-- Laws of sets as numbers: the four numbers by value, legal sets, the range. Assumes nothing.
use Rattle.std.specs.Prelude.{ℕ, zero, suc, ◌+◌, ◌-◌, ◌*◌, ◌^◌, ◌<◌, ◌≤◌, ◌≡◌, refl, Bool, true, false, not, ◌&&◌, List, [], ◌∷◌, ltb, eqb, length, get_or}
use Rattle.std.proofs.Common.{sym, ap, ◌∙◌, subst, arith, mul_comm, mul-le-mul_left, mul-le-mul_right, suc-mul, lt_of_lt_of_le, ltb-true, ltb-false, lt-ltb, le-ltb, eqb-true, pow-add, pow_pos, pow_mono, Fits, w64}
use Rattle.std.proofs.Math.Bool.{and-eq-true_iff}
use Rattle.std.proofs.Math.Decide.{dec_le}
use Rattle.std.proofs.lemmas.Bool.{not-false}
use Rattle.std.proofs.Math.Arith.{digits_lt, lt-one}
use Rattle.entry_set.specs.Joined.{parts}
use Rattle.entry_set.specs.JoinedLaws.{parts_below, joined-below, parts-joined}
use Rattle.entry_set.specs.Sets.{value, words, width, legal, numbers, number, entry_set, Holds}
use Rattle.entry_set.specs.declared.EntrySet.{EntrySet}

-- four numbers of 64 bits
pub small : {a b c d : ℕ} → a < 2 ^ 64 → b < 2 ^ 64 → c < 2 ^ 64 → d < 2 ^ 64 → (i : ℕ) → get_or (a ∷ b ∷ c ∷ d ∷ []) i 0 < 2 ^ 64
small ha hb hc hd zero = ha
small ha hb hc hd (suc zero) = hb
small ha hb hc hd (suc (suc zero)) = hc
small ha hb hc hd (suc (suc (suc zero))) = hd
small ha hb hc hd (suc (suc (suc (suc i)))) = pow_pos 64

abbrev of_list : List ℕ → EntrySet
of_list l = record { 0 = get_or l 0 0; 1 = get_or l 1 0; 2 = get_or l 2 0; 3 = get_or l 3 0 }

-- a set by value is the set of its number
pub holds : (s : EntrySet) → ((i : ℕ) → get_or (numbers s) i 0 < 2 ^ 64) → Holds (number s) s
unfolding entry_set
holds s h = record { value = refl; set = sym (ap of_list (parts-joined 64 (numbers s) h)) }

-- what is known of a set by value: its numbers are of 64 bits
abbrev pub Known : EntrySet → Type 0
Known s = Fits w64 s.0 × Fits w64 s.1 × Fits w64 s.2 × Fits w64 s.3

pub known : (s : EntrySet) → Known s → (i : ℕ) → get_or (numbers s) i 0 < 2 ^ 64
known s k = small k.0.fits k.1.fits k.2.fits k.3.fits

pub known-holds : {X : ℕ} {s : EntrySet} → Known s → number s ≡ X → Holds X s
known-holds {X} {s} k e = subst (λ (n : ℕ). Holds n s) e (holds s (known s k))

-- the set of X has the words of X, and its number at most 256 bits
pub numbers_entry_set : (X : ℕ) → numbers (entry_set X) ≡ words 4 X
unfolding entry_set parts
numbers_entry_set X = refl

pub entry_set_below : (X : ℕ) → number (entry_set X) < 2 ^ 256
unfolding parts
entry_set_below X = subst (λ (l : List ℕ). value l < 2 ^ 256) (sym (numbers_entry_set X)) (joined-below 64 (words 4 X) (parts_below 64 4 X))

pub holds-below : {X : ℕ} {s : EntrySet} → Holds X s → X < 2 ^ 256
holds-below {X} {s} h = subst (λ (n : ℕ). n < 2 ^ 256) (ap number (sym h.set) ∙ h.value) (entry_set_below X)

pub holds-numbers : {X : ℕ} {s : EntrySet} → Holds X s → numbers s ≡ words 4 X
holds-numbers {X} h = ap numbers h.set ∙ numbers_entry_set X

pub holds-known : {X : ℕ} {s : EntrySet} → Holds X s → Known s
holds-known {X} {s} h = (fit 0, fit 1, fit 2, fit 3)
  where
    fit : (i : ℕ) → Fits w64 (get_or (numbers s) i 0)
    fit i = record { fits = subst (λ (l : List ℕ). get_or l i 0 < 2 ^ 64) (sym (holds-numbers h)) (parts_below 64 4 X i) }

-- a set that a test finds legal has w numbers, four at most, and no bit at or above e
legal-length : (e : ℕ) (l : List ℕ) → legal e l ≡ true → length l ≡ width e
legal-length e l h = eqb-true (length l) (width e) ((and-eq-true_iff (eqb (length l) (width e)) (ltb (value l) (2 ^ e))).0 h).0

pub legal-short : (e : ℕ) (l : List ℕ) {r : Bool} → e ≤ 256 → r ≡ legal e l → not r ≡ false → length l ≤ 4
legal-short e l b q k = omega (arith, legal-length e l (sym q ∙ not-false _ k))

pub legal-below : (e : ℕ) (l : List ℕ) → legal e l ≡ true → value l < 2 ^ e
legal-below e l h = ltb-true (value l) (2 ^ e) ((and-eq-true_iff (eqb (length l) (width e)) (ltb (value l) (2 ^ e))).0 h).1

-- E is at most 256
pub below_256 : {X e : ℕ} → e ≤ 256 → X < 2 ^ e → X < 2 ^ 256
below_256 h q = lt_of_lt_of_le q (pow_mono h)

-- set i of n sets of w numbers each lies within the list
pub sets-room : {i n : ℕ} (w : ℕ) → i < n → i * w + w ≤ n * w
sets-room {i} {n} w h = omega (arith, suc-mul i w, mul-le-mul_right {m = suc i} {n = n} w h)

-- a number below 2 ^ e: its lowest b bits and the rest are in range
pub range_step : (b x y e : ℕ) → x < 2 ^ b → ltb (x + 2 ^ b * y) (2 ^ e) ≡ ltb x (2 ^ e) && ltb y (2 ^ (e - b))
range_step b x y e h = go (ltb x (2 ^ e)) refl (ltb y (2 ^ (e - b))) refl
  where
    out : 2 ^ (e - b) ≤ y → 2 ^ e ≤ x + 2 ^ b * y
    out q = omega (arith, pow_mono {i = e} {j = b + (e - b)} (omega arith), pow-add 2 b (e - b), mul-le-mul_left (2 ^ b) q)

    inside : Dec (b ≤ e) → x < 2 ^ e → y < 2 ^ (e - b) → x + 2 ^ b * y < 2 ^ e
    inside (yes p) hx hy =
        let whole : 2 ^ e ≡ 2 ^ (e - b) * 2 ^ b = ap (λ (n : ℕ). 2 ^ n) {x = e} {y = e - b + b} (omega arith) ∙ pow-add 2 (e - b) b in
        omega (arith, whole, digits_lt hy h, mul_comm (2 ^ b) y)
    inside (no p) hx hy =
        let none : y ≡ 0 = lt-one (subst (λ (n : ℕ). y < 2 ^ n) {x = e - b} {y = 0} (omega arith) hy) in
        rw none (omega arith)

    go : (t : Bool) → ltb x (2 ^ e) ≡ t → (u : Bool) → ltb y (2 ^ (e - b)) ≡ u → ltb (x + 2 ^ b * y) (2 ^ e) ≡ t && u
    go true p true q = lt-ltb _ _ (inside (dec_le b e) (ltb-true _ _ p) (ltb-true _ _ q))
    go true p false q = le-ltb _ _ (out (ltb-false _ _ q))
    go false p u q = le-ltb (x + 2 ^ b * y) (2 ^ e) (omega (arith, ltb-false x (2 ^ e) p))
