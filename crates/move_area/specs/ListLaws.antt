-- Laws of the tests that `consistent` is made of. Assumes nothing.
use Rattle.std.specs.Prelude.{◌≡◌, true, not, List, ℕ, ◌<◌, eqb, length}
use Rattle.std.proofs.Common.{sym, ap, arith, ext_get_or, eqb-true, eq-eqb}
use Rattle.std.proofs.Math.Decide.{ℕ_discrete, dec_lt}
use Rattle.std.proofs.lemmas.Bool.{eqb-false, not-true, not-false}
use Rattle.graphs.specs.Bools.{and_left, and_right, and_both, fails}
use Rattle.graphs.specs.Lists.{some_below, some_take, some_none, has-at}
use Rattle.move_ledger.specs.Graph.{at}
use Rattle.move_ledger.specs.Ledger.{index}
use Rattle.move_ledger.specs.Places.{index-has}
use Rattle.move_area.specs.Area.{distinct, alike_lists}

-- two lists that pass the test are one
pub alike_one : (k l : List ℕ) → alike_lists k l ≡ true → k ≡ l
unfolding alike_lists
alike_one k l h =
    let e : length k ≡ length l = eqb-true _ _ (and_left (eqb (length k) (length l)) _ h) in
    ext_get_or 0 k l e (λ i b.
    eqb-true _ _ (not-false _ (some_none (λ i. not (eqb (at k i) (at l i))) (length k) (not-true _ (and_right (eqb (length k) (length l)) _ h)) i b)))

pub one_alike : (k l : List ℕ) → k ≡ l → alike_lists k l ≡ true
unfolding alike_lists
one_alike k l e =
    and_both (eqb (length k) (length l)) _ (eq-eqb _ _ (ap length e))
    (ap not (fails _ (λ h.
    let r = some_take (λ i. not (eqb (at k i) (at l i))) (length k) h in
    eqb-false _ _ (not-true _ r.2) (ap (λ (u : List ℕ). at u r.0) e))))

-- no set stands at two places
pub record Distinct (sets : List ℕ) : Type 0 where
  pub apart : (i j : ℕ) → i < j → j < length sets → at sets i ≡ at sets j → ⊥

pub distinct_apart : (sets : List ℕ) → distinct sets ≡ true → Distinct sets
unfolding distinct
distinct_apart sets h = record {
  apart = λ i j a b e.
      let p = some_none (λ j. some_below (λ i. eqb (at sets i) (at sets j)) j) (length sets) (not-true _ h) j b in
      eqb-false _ _ (some_none (λ i. eqb (at sets i) (at sets j)) j p i a) e;
}

pub apart_distinct : (sets : List ℕ) → Distinct sets → distinct sets ≡ true
unfolding distinct
apart_distinct sets d =
    ap not (fails _ (λ h.
    let r = some_take (λ j. some_below (λ i. eqb (at sets i) (at sets j)) j) (length sets) h in
    let q = some_take (λ i. eqb (at sets i) (at sets r.0)) r.0 r.2 in
    d.apart q.0 r.0 q.1 r.1 (eqb-true _ _ q.2)))

pub one_place : {sets : List ℕ} → Distinct sets → (x y : ℕ) → x < length sets → y < length sets → at sets x ≡ at sets y → x ≡ y
one_place {sets} d x y bx by e = go (ℕ_discrete x y) (dec_lt x y)
  where
    go : Dec (x ≡ y) → Dec (x < y) → x ≡ y
    go (yes q) h = q
    go (no q) (yes h) = absurd (d.apart x y h by e)
    go (no q) (no h) = absurd (d.apart y x (omega arith) bx (sym e))

-- a registered set's place
pub index_at : {sets : List ℕ} → Distinct sets → (x : ℕ) → x < length sets → index (at sets x) sets ≡ x
index_at {sets} d x b = let r = index-has (at sets x) sets (has-at sets x b) in one_place d _ x r.0 b r.1
