-- With more than A places one of N registered sets is empty, and the smallest of these gives up its place. Assumes nothing.
use Prim.Native.Nat.{ℕ, zero, suc, ◌+◌, ◌≤◌, ◌<◌}
use native.Mathlib.Omega.{arith}
use Rattle.std.specs.Prelude.{◌≡◌, Bool, cond, ◌&&◌, List}
use Rattle.std.proofs.Math.Path.{refl}
use Rattle.std.proofs.Common.{sym, ap, ◌∙◌, ⊎_elim, true≢false}
use Rattle.std.proofs.Math.Bool.{true, false, not}
use Rattle.std.proofs.Math.Dec.{ltb, eqb}
use Rattle.std.proofs.Math.ListN.{length}
use borrow.Author.Tests.{ltb-true, ltb-false, eqb-true, eq-eqb, ne_eqb, not-true, not-false}
use Rattle.graphs.specs.Bools.{or_left, or_cases, and_left, and_right, and_both}
use Rattle.graphs.specs.Count.{ind, count, count-all_no}
use Rattle.graphs.specs.Total.{total, count-total}
use Rattle.graphs.specs.Lists.{any, has, has-at, some_below, some_take, some_none}
use Rattle.move_ledger.specs.Graph.{Load, at, members, occupied, rising}
use Rattle.move_ledger.specs.Ledger.{kept, index, put, smallest_empty, free_place, register}
use Rattle.move_ledger.specs.Listing.{Rising, none, next, rising-rising, has-rising, has_bound}
use Rattle.move_ledger.specs.Places.{has_kept, index-has, Apart}

-- sums of two, of ones and of noughts
pub total_add : (f g : ℕ → ℕ) (n : ℕ) → total (λ i. f i + g i) n ≡ total f n + total g n
unfolding total
total_add f g zero = refl
total_add f g (suc n) = omega (arith, total_add f g n)

total_ones : (f : ℕ → ℕ) (n : ℕ) → ((i : ℕ) → i < n → 1 ≤ f i) → n ≤ total f n
unfolding total
total_ones f zero h = omega arith
total_ones f (suc n) h = omega (arith, total_ones f n (λ i b. h i (omega arith)), h n (omega arith))

pub total_noughts : (n : ℕ) → total (λ i. 0) n ≡ 0
unfolding total
total_noughts zero = refl
total_noughts (suc n) = omega (arith, total_noughts n)

module _ (l : List ℕ) (d : Apart l) where
  -- a number stands at most once among distinct ones
  once : (x n : ℕ) → n ≤ length l → count (λ i. eqb x (at l i)) n ≤ 1
  unfolding count
  once x zero h = omega arith
  once x (suc n) h = go (eqb x (at l n)) refl (once x n (omega arith))
    where
      go : (t : Bool) → eqb x (at l n) ≡ t → count (λ i. eqb x (at l i)) n ≤ 1 → count (λ i. eqb x (at l i)) n + ind t ≤ 1
      go true q f = omega (arith, count-all_no (λ i. eqb x (at l i)) n (λ i b. ne_eqb x (at l i) (λ e. d i n b (omega arith) (sym e ∙ eqb-true x (at l n) q))))
      go false q f = omega arith

  -- the atoms of distinct sets are no more than all atoms
  shared : (place : List ℕ) (k : ℕ) → total (λ i. count (λ a. eqb (at place a) (at l i)) k) (length l) ≤ k
  unfolding count
  shared place zero = omega (arith, total_noughts (length l))
  shared place (suc k) =
      omega (
        arith,
        total_add (λ i. count (λ a. eqb (at place a) (at l i)) k) (λ i. ind (eqb (at place k) (at l i))) (length l),
        count-total (λ i. eqb (at place k) (at l i)) (length l),
        once (at place k) (length l) (omega arith),
        shared place k,
      )

  -- more distinct sets than atoms: one of them is empty
  pub some_empty : (load : Load) (place : List ℕ) → load.A < length l → (i : ℕ) × (i < length l) × (occupied load place (at l i) ≡ false)
  unfolding members
  some_empty load place more = go (some_below (λ i. not (occupied load place (at l i))) (length l)) refl
    where
      go : (t : Bool) → some_below (λ i. not (occupied load place (at l i))) (length l) ≡ t → (i : ℕ) × (i < length l) × (occupied load place (at l i) ≡ false)
      go true q = let r = some_take (λ i. not (occupied load place (at l i))) (length l) q in (r.0, r.1, not-true _ r.2)
      go false q = absurd (omega (arith, total_ones (λ i. count (λ a. eqb (at place a) (at l i)) load.A) (length l) all, shared place load.A))
        where
          all : (i : ℕ) → i < length l → 1 ≤ count (λ a. eqb (at place a) (at l i)) load.A
          all i b = ltb-true 0 _ (not-false _ (some_none (λ i. not (occupied load place (at l i))) (length l) q i b))

-- the first of a rising list is a member, and the least
rising-first : {b : ℕ} {l : List ℕ} → Rising b l → (z : ℕ) → has z l ≡ true → (has (at l 0) l ≡ true) × (at l 0 ≤ z)
unfolding has any
rising-first none z h = absurd (true≢false (sym h))
rising-first (next {x} {l} k r) z h =
    (or_left (eqb x x) _ (eq-eqb x x refl), ⊎_elim (λ a. omega (arith, eqb-true z x a)) (λ m. omega (arith, has_bound z r m)) (or_cases (eqb z x) _ h))

-- where a set is empty, the smallest empty one is registered, is empty, and none that is empty is smaller
pub record Smallest (load : Load) (place seen : List ℕ) (X : ℕ) : Type 0 where
  pub there : has X seen ≡ true
  pub empty : occupied load place X ≡ false
  pub least : (Y : ℕ) → has Y seen ≡ true → occupied load place Y ≡ false → X ≤ Y

pub smallest : (load : Load) (place seen : List ℕ) (Y : ℕ) → has Y seen ≡ true → occupied load place Y ≡ false → Smallest load place seen (smallest_empty load place seen)
unfolding smallest_empty
smallest load place seen Y h e =
    let p : ℕ → Bool = λ X. not (occupied load place X) in
    let m : (Z : ℕ) → has Z seen ≡ true → occupied load place Z ≡ false → has Z (rising (kept p seen)) ≡ true
    = λ Z a b. has-rising Z (kept p seen) ∙ has_kept p Z seen ∙ and_both (has Z seen) _ a (ap not b) in
    let r = rising-first (rising-rising (kept p seen)) in
    let f : (has (at (rising (kept p seen)) 0) seen && p (at (rising (kept p seen)) 0)) ≡ true = sym (has_kept p _ seen) ∙ sym (has-rising _ (kept p seen)) ∙ (r Y (m Y h e)).0 in
    record { there = and_left (has (at (rising (kept p seen)) 0) seen) _ f; empty = not-true _ (and_right (has (at (rising (kept p seen)) 0) seen) _ f); least = λ Z a b. (r Z (m Z a b)).1 }

-- a place for a new set: the next one, or that of an empty set, and always below N
pub record Free (load : Load) (N : ℕ) (place seen : List ℕ) (r : ℕ) : Type 0 where
  pub within : r ≤ length seen
  pub room : r < N
  pub empty : r < length seen → occupied load place (at seen r) ≡ false

module _ (load : Load) (N : ℕ) (place seen : List ℕ) (d : Apart seen) (few : length seen ≤ N) (more : load.A < N) where
  -- so row 13, that there is no place for a new set, never fits
  pub place-free : Free load N place seen (free_place load N place seen)
  unfolding free_place
  place-free = go (ltb (length seen) N) refl
    where
      go : (t : Bool) → ltb (length seen) N ≡ t → Free load N place seen (cond t (length seen) (index (smallest_empty load place seen) seen))
      go true q = record { within = omega arith; room = ltb-true _ _ q; empty = λ h. absurd (omega arith) }
      go false q =
          let y = some_empty seen d load place (omega (arith, ltb-false (length seen) N q)) in
          let s = smallest load place seen (at seen y.0) (has-at seen y.0 y.1) y.2 in
          let x = index-has (smallest_empty load place seen) seen s.there in
          record { within = omega (arith, x.0); room = omega (arith, x.0); empty = λ h. rw x.1 s.empty }

-- registering
pub register-old : (load : Load) (N : ℕ) (place : List ℕ) (T : ℕ) (seen : List ℕ) → has T seen ≡ true → register load N place T seen ≡ seen
unfolding register
register-old load N place T seen q = rw q refl

pub register-new : (load : Load) (N : ℕ) (place : List ℕ) (T : ℕ) (seen : List ℕ) → has T seen ≡ false
    → register load N place T seen ≡ put (free_place load N place seen) T seen
unfolding register
register-new load N place T seen q = rw q refl

-- the target is registered, within N, and the list doesn't shrink
pub record Registered (N T : ℕ) (seen seen' : List ℕ) : Type 0 where
  pub has_target : has T seen' ≡ true
  pub grows : length seen ≤ length seen'
  pub few : length seen' ≤ N
