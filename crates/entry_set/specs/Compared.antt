-- Two sets compared: their four numbers tell what the numbers that they make tell. Assumes nothing.
use Rattle.std.specs.Prelude.{ℕ, suc, ◌+◌, ◌*◌, ◌/◌, ◌%◌, ◌^◌, ◌<◌, ◌≤◌, ◌≡◌, refl, Bool, true, false, cond, ◌&&◌, ltb, eqb}
use Rattle.std.specs.declared.cmp.Ordering.{Ordering}
use Rattle.std.specs.declared.cmp.Ordering.TheVariants.{Less, Equal, Greater}
use Rattle.std.specs.Ordering.{nat_cmp, ordering_then, on, then_cmp}
use Rattle.std.proofs.Common.{sym, ap, ap₂, ◌∙◌, arith, mul-le-mul_left, mul-suc, lt-ltb, le-ltb, eq-eqb, ne_eqb, ltb-true, ltb-false, eqb-true}
use Rattle.std.proofs.lemmas.Bool.{eqb-false}
use Rattle.entry_set.specs.declared.EntrySet.{EntrySet}
use Rattle.entry_set.specs.Joined.{joined}
use Rattle.entry_set.specs.JoinedLaws.{low_part, high_part}
use Rattle.entry_set.specs.Sets.{number, Holds}
use Rattle.entry_set.specs.SetLaws.{Known, known, holds-known}

-- numbers that are made of two: equal where both are; and the rest decides, and where it is equal the lowest
module _ (b : ℕ) {x y : ℕ} (X Y : ℕ) (hx : x < 2 ^ b) (hy : y < 2 ^ b) where
  pub equal_step : eqb (x + 2 ^ b * X) (y + 2 ^ b * Y) ≡ eqb x y && eqb X Y
  equal_step = go (eqb x y) refl (eqb X Y) refl
    where
      first : x + 2 ^ b * X ≡ y + 2 ^ b * Y → x ≡ y
      first e = sym (low_part b x X hx) ∙ ap (λ (n : ℕ). n % 2 ^ b) e ∙ low_part b y Y hy

      rest : x + 2 ^ b * X ≡ y + 2 ^ b * Y → X ≡ Y
      rest e = sym (high_part b x X hx) ∙ ap (λ (n : ℕ). n / 2 ^ b) e ∙ high_part b y Y hy

      go : (t : Bool) → eqb x y ≡ t → (u : Bool) → eqb X Y ≡ u → eqb (x + 2 ^ b * X) (y + 2 ^ b * Y) ≡ t && u
      go true p true q = eq-eqb _ _ (ap₂ (λ (m n : ℕ). m + 2 ^ b * n) (eqb-true x y p) (eqb-true X Y q))
      go true p false q = ne_eqb _ _ (λ e. eqb-false X Y q (rest e))
      go false p u q = ne_eqb _ _ (λ e. eqb-false x y p (first e))

  pub less-step : ltb (x + 2 ^ b * X) (y + 2 ^ b * Y) ≡ cond (eqb X Y) (ltb x y) (ltb X Y)
  less-step = go (eqb X Y) refl (ltb x y) refl (ltb X Y) refl
    where
      above : {m M N : ℕ} (n : ℕ) → m < 2 ^ b → M < N → m + 2 ^ b * M < n + 2 ^ b * N
      above {m} {M} {N} n hm q =
          let below : 2 ^ b * suc M ≤ 2 ^ b * N = mul-le-mul_left (2 ^ b) (omega arith) in
          omega (arith, mul-suc (2 ^ b) M, below)

      go : (s : Bool) → eqb X Y ≡ s → (t : Bool) → ltb x y ≡ t → (u : Bool) → ltb X Y ≡ u → ltb (x + 2 ^ b * X) (y + 2 ^ b * Y) ≡ cond s t u
      go true p true q u r = lt-ltb (x + 2 ^ b * X) (y + 2 ^ b * Y) (rw (eqb-true X Y p) (omega (arith, ltb-true x y q)))
      go true p false q u r = le-ltb (x + 2 ^ b * X) (y + 2 ^ b * Y) (rw (eqb-true X Y p) (omega (arith, ltb-false x y q)))
      go false p t q true r = lt-ltb _ _ (above y hx (ltb-true X Y r))
      go false p t q false r =
          let more : Y < X = omega (arith, ltb-false X Y r, eqb-false X Y p) in
          le-ltb (x + 2 ^ b * X) (y + 2 ^ b * Y) (omega (arith, above x hy more))

  pub order_step : nat_cmp (x + 2 ^ b * X) (y + 2 ^ b * Y) ≡ ordering_then (nat_cmp X Y) (nat_cmp x y)
  order_step = rw (less-step, equal_step) (go (eqb X Y) refl (ltb X Y) refl (eqb x y) (ltb x y))
    where
      go : (s : Bool) → eqb X Y ≡ s → (u : Bool) → ltb X Y ≡ u → (e t : Bool) → cond (cond s t u) Less (cond (e && s) Equal Greater) ≡ ordering_then (cond u Less (cond s Equal Greater)) (cond t Less (cond e Equal Greater))
      go true p true q e t = absurd (omega (arith, eqb-true X Y p, ltb-true X Y q))
      go true p false q true t = refl
      go true p false q false t = refl
      go false p true q e t = refl
      go false p false q true t = refl
      go false p false q false t = refl

last : (d : ℕ) → d + 2 ^ 64 * 0 ≡ d
last d = omega arith

nested : (o p q r : Ordering) → ordering_then (ordering_then (ordering_then o p) q) r ≡ ordering_then o (ordering_then p (ordering_then q r))
nested Less p q r = refl
nested Greater p q r = refl
nested Equal Less q r = refl
nested Equal Greater q r = refl
nested Equal Equal q r = refl

-- what `==` computes: each of the four numbers
abbrev pub same_numbers : EntrySet → EntrySet → Bool
same_numbers a b = eqb a.0 b.0 && (eqb a.1 b.1 && (eqb a.2 b.2 && eqb a.3 b.3))

-- the order of sets: the highest number that differs decides
abbrev pub highest_first : EntrySet → EntrySet → Ordering
highest_first = then_cmp (on (λ s. s.3) nat_cmp) (then_cmp (on (λ s. s.2) nat_cmp) (then_cmp (on (λ s. s.1) nat_cmp) (on (λ s. s.0) nat_cmp)))

-- `==` of sets is equality of their numbers
pub equal_by_number : {a b : EntrySet} {r : Bool} → Known a → Known b → r ≡ same_numbers a b → r ≡ eqb (number a) (number b)
unfolding joined
equal_by_number {a} {b} ha hb e =
    let ka = known a ha in
    let kb = known b hb in
    e ∙ sym (rw (last a.3, last b.3, equal_step 64 _ _ (ka 0) (kb 0), equal_step 64 _ _ (ka 1) (kb 1), equal_step 64 _ _ (ka 2) (kb 2)) refl)

pub equal_held : {X Y : ℕ} {a b : EntrySet} {r : Bool} → Holds X a → Holds Y b → r ≡ same_numbers a b → r ≡ eqb X Y
equal_held {a} {b} h g e = equal_by_number (holds-known h) (holds-known g) e ∙ ap₂ eqb h.value g.value

-- `cmp` of sets is the order of their numbers
pub order_by_number : {a b : EntrySet} {o : Ordering} → Known a → Known b → o ≡ highest_first a b → o ≡ nat_cmp (number a) (number b)
unfolding joined
order_by_number {a} {b} ha hb e =
    let ka = known a ha in
    let kb = known b hb in
    e ∙ sym (rw (last a.3, last b.3, order_step 64 _ _ (ka 0) (kb 0), order_step 64 _ _ (ka 1) (kb 1), order_step 64 _ _ (ka 2) (kb 2))
    (nested (nat_cmp a.3 b.3) (nat_cmp a.2 b.2) (nat_cmp a.1 b.1) (nat_cmp a.0 b.0)))

pub order_held : {X Y : ℕ} {a b : EntrySet} {o : Ordering} → Holds X a → Holds Y b → o ≡ highest_first a b → o ≡ nat_cmp X Y
order_held {a} {b} h g e = order_by_number (holds-known h) (holds-known g) e ∙ ap₂ nat_cmp h.value g.value
