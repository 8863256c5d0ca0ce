-- The count of ones finds a set of one bit, and its trailing zeros say which. Assumes nothing.
use Prim.Native.Nat.{ℕ, zero, suc, ◌+◌, ◌*◌, ◌/◌, ◌%◌, ◌^◌, ◌≤◌, ◌<◌}
use mathlib.Core.Path.{◌≡◌, refl, sym, ap, ◌∙◌, subst}
use mathlib.Core.List.{List, [], ◌∷◌}
use native.Mathlib.Omega.{arith}
use native.Mathlib.Nat.{pow-suc, mul_comm, mul_assoc}
use lib.Arith.{lt-one}
use lib.ListN.{length, get_or}
use lib.Pow.{pow-add, pow_pos}
use lib.Count.{ones_in, ones, count_trailing_zeros, under, ones_step, ones_cat}
use Rattle.entry_set.specs.declared.EntrySet.{EntrySet}
use Rattle.entry_set.specs.Joined.{joined}
use Rattle.entry_set.specs.JoinedLaws.{wider, turned, joined-below}
use Rattle.entry_set.specs.Sets.{value, numbers, number, single_bit}
use Rattle.entry_set.specs.SingleLaws.{single_power, single_none}

pub ones_zero : ones 0 ≡ 0
unfolding ones ones_in
ones_zero = refl

ones_one : ones 1 ≡ 1
unfolding ones ones_in
ones_one = refl

pub ones_power : (e : ℕ) → ones (2 ^ e) ≡ 1
ones_power e = ap ones {x = 2 ^ e} {y = 1 * 2 ^ e + 0} (omega arith) ∙ ones_cat e 1 0 (pow_pos e) ∙ omega (arith, ones_zero, ones_one)

half : (k n : ℕ) → n < 2 ^ suc k → n / 2 < 2 ^ k
half k n h = omega (arith, pow-suc 2 k)

-- a number without ones is 0
pub none : (k n : ℕ) → n < 2 ^ k → ones n ≡ 0 → n ≡ 0
none zero n h e = lt-one h
none (suc k) n h e =
    let a : ones (n / 2) ≡ 0 = omega (arith, ones_step n) in
    omega (arith, ones_step n, none k (n / 2) (half k n h) a)

-- a number with a single one is a power of two
pub single : (k n : ℕ) → n < 2 ^ k → ones n ≡ 1 → (count_trailing_zeros k n < k) × (n ≡ 2 ^ count_trailing_zeros k n)
unfolding count_trailing_zeros
single zero n h e = absurd (omega (arith, subst (λ (m : ℕ). ones m ≡ 1) (lt-one h) e, ones_zero))
single (suc k) n h e = go (λ o. single k (n / 2) (half k n h) o) (n % 2) refl
  where
    go : (ones (n / 2) ≡ 1 → (count_trailing_zeros k (n / 2) < k) × (n / 2 ≡ 2 ^ count_trailing_zeros k (n / 2))) → (d : ℕ) → n % 2 ≡ d
        → (under (n % 2) (count_trailing_zeros k (n / 2)) < suc k) × (n ≡ 2 ^ under (n % 2) (count_trailing_zeros k (n / 2)))
    go rest zero q =
        let r = rest (omega (arith, ones_step n)) in
        rw q (omega (arith, r.0), omega (arith, r.1, pow-suc 2 (count_trailing_zeros k (n / 2))))
    go rest (suc d) q =
        let z : n / 2 ≡ 0 = none k (n / 2) (half k n h) (omega (arith, ones_step n)) in
        rw q (omega arith, omega arith)

-- the ones of a list of numbers of b bits are those of each
pub ones_cons : (b x y : ℕ) → x < 2 ^ b → ones (x + 2 ^ b * y) ≡ ones x + ones y
ones_cons b x y h = ap ones (turned b x y) ∙ omega (arith, ones_cat b y x h)

module _ (b : ℕ) where
  part_ones : (l : List ℕ) → ((i : ℕ) → get_or l i 0 < 2 ^ b) → (p : ℕ) → ones (get_or l p 0) ≤ ones (joined b l)
  unfolding joined
  part_ones [] small zero = omega arith
  part_ones [] small (suc p) = omega arith
  part_ones (x ∷ xs) small zero = omega (arith, ones_cons b x (joined b xs) (small 0))
  part_ones (x ∷ xs) small (suc p) = omega (arith, ones_cons b x (joined b xs) (small 0), part_ones xs (λ i. small (suc i)) p)

  -- where the list has one bit and number p isn't 0, the bit is there
  lone : (l : List ℕ) → ((i : ℕ) → get_or l i 0 < 2 ^ b) → ones (joined b l) ≡ 1 → (p : ℕ) → (get_or l p 0 ≡ 0 → ⊥) → (ones (get_or l p 0) ≡ 1) × (joined b l ≡ 2 ^ (b * p) * get_or l p 0)
  unfolding joined
  lone [] small one zero some = absurd (some refl)
  lone [] small one (suc p) some = absurd (some refl)
  lone (x ∷ xs) small one zero some =
      let here : ones x ≡ 0 → ⊥ = λ e. some (none b x (small 0) e) in
      let all = ones_cons b x (joined b xs) (small 0) in
      let rest : joined b xs ≡ 0 = none (b * length xs) (joined b xs) (joined-below b xs (λ i. small (suc i))) (omega (arith, one, all, here)) in
      (omega (arith, one, all, here), rw (rest, ap (λ (n : ℕ). 2 ^ n) {x = b * 0} {y = 0} (omega arith)) (omega arith))
  lone (x ∷ xs) small one (suc p) some =
      let all = ones_cons b x (joined b xs) (small 0) in
      let there : ones (get_or xs p 0) ≡ 0 → ⊥ = λ e. some (none b (get_or xs p 0) (small (suc p)) e) in
      let more = part_ones xs (λ i. small (suc i)) p in
      let first : x ≡ 0 = none b x (small 0) (omega (arith, one, all, there, more)) in
      let r = lone xs (λ i. small (suc i)) (omega (arith, one, all, there, more)) p some in
      (r.0, rw (first, r.1) (omega (arith, ap (λ (n : ℕ). n * get_or xs p 0) (wider b p ∙ mul_comm (2 ^ (b * p)) (2 ^ b)), mul_assoc (2 ^ b) (2 ^ (b * p)) (get_or xs p 0))))

-- the bit of a set of four numbers, from the number that isn't 0
pub lone_bit : (l : List ℕ) → ((i : ℕ) → get_or l i 0 < 2 ^ 64) → ones (value l) ≡ 1 → (p : ℕ) → p < 4 → (get_or l p 0 ≡ 0 → ⊥) → single_bit (value l) ≡ 64 * p + count_trailing_zeros 64 (get_or l p 0)
lone_bit l small one p h some =
    let r = lone 64 l small one p some in
    let t = single 64 (get_or l p 0) (small p) r.0 in
    ap single_bit (r.1 ∙ ap (λ (n : ℕ). 2 ^ (64 * p) * n) t.1 ∙ sym (pow-add 2 (64 * p) (count_trailing_zeros 64 (get_or l p 0)))) ∙ single_power (64 * p + count_trailing_zeros 64 (get_or l p 0)) (omega arith)

-- and a set that hasn't one bit has no bit of its own
pub not_lone : (X : ℕ) → (ones X ≡ 1 → ⊥) → single_bit X ≡ 256
not_lone X h = single_none X (λ e _ q. h (ap ones q ∙ ones_power e))

-- the ones of four numbers
pub ones_four : (s : EntrySet) → ((i : ℕ) → get_or (numbers s) i 0 < 2 ^ 64) → ones (number s) ≡ ones s.0 + ones s.1 + ones s.2 + ones s.3
unfolding joined
ones_four s h =
    let fourth : ones (s.3 + 2 ^ 64 * 0) ≡ ones s.3 = ap ones {y = s.3} (omega arith) in
    let third = ones_cons 64 s.2 (s.3 + 2 ^ 64 * 0) (h 2) in
    let second = ones_cons 64 s.1 (s.2 + 2 ^ 64 * (s.3 + 2 ^ 64 * 0)) (h 1) in
    let first = ones_cons 64 s.0 (s.1 + 2 ^ 64 * (s.2 + 2 ^ 64 * (s.3 + 2 ^ 64 * 0))) (h 0) in
    omega (arith, first, second, third, fourth)

-- four numbers with a one aren't all 0
pub some_four : (s : EntrySet) → ((i : ℕ) → get_or (numbers s) i 0 < 2 ^ 64) → ones (number s) ≡ 1 → s.0 ≡ 0 → s.1 ≡ 0 → s.2 ≡ 0 → s.3 ≡ 0 → ⊥
some_four s h one p q r e = omega (arith, one, ones_four s h, ap ones p, ap ones q, ap ones r, ap ones e, ones_zero)
