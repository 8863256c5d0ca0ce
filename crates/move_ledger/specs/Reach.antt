-- How many other chunks a chunk reaches: at most all others, and by nodes what a walk marks. Assumes nothing.
use Prim.Native.Nat.{ℕ, suc, ◌+◌, ◌≤◌}
use native.Mathlib.Omega.{arith}
use Rattle.std.specs.Prelude.{◌≡◌, Bool, cond, ◌&&◌, List, [], ◌∷◌, ltb, length}
use Rattle.std.proofs.Math.Path.{refl, sym, ap}
use Rattle.std.proofs.Common.{◌∙◌, true≢false}
use Rattle.std.proofs.Math.Bool.{true, false, not, and-false}
use Rattle.std.proofs.Math.Dec.{eqb}
use borrow.Author.Tests.{eqb-true, eqb-false, eq-eqb}
use Rattle.graphs.specs.Bools.{or_left, or_right, or_false_left, or_false_right, fails}
use Rattle.graphs.specs.Count.{ind}
use Rattle.graphs.specs.Lists.{any, has, has-place}
use Rattle.graphs.specs.Walk.{via}
use Rattle.move_ledger.specs.Graph.{Load, edge, insert, rising, sum, reach}
use Rattle.move_ledger.specs.LoadLaws.{InOrder}
use Rattle.move_ledger.specs.Listing.{Rising, none, next, rising-rising, has-rising, has_bound}
use Rattle.move_ledger.specs.Places.{Apart}
use Rattle.move_ledger.specs.Nodes.{placed, Placing}

-- sums over the members of a list, one at most or just as much as another
sum_le : (f g : ℕ → ℕ) (l : List ℕ) → ((X : ℕ) → f X ≤ g X) → sum f l ≤ sum g l
unfolding sum
sum_le f g [] h = omega arith
sum_le f g (x ∷ l) h = omega (arith, h x, sum_le f g l h)

sum_same : (f g : ℕ → ℕ) (l : List ℕ) → ((X : ℕ) → has X l ≡ true → f X ≡ g X) → sum f l ≡ sum g l
unfolding sum has any
sum_same f g [] h = refl
sum_same f g (x ∷ l) h = omega (arith, h x (or_left (eqb x x) _ (eq-eqb x x refl)), sum_same f g l (λ X q. h X (or_right (eqb X x) _ q)))

-- all members but T
abbrev other : ℕ → ℕ → ℕ
other T X = ind (not (eqb T X))

sum-all : (T : ℕ) (l : List ℕ) → has T l ≡ false → sum (other T) l ≡ length l
unfolding sum has any
sum-all T [] h = refl
sum-all T (x ∷ l) h = rw (or_false_left (eqb T x) _ h) (omega (arith, sum-all T l (or_false_right (eqb T x) _ h)))

pub sum_others : (T : ℕ) {b : ℕ} {l : List ℕ} → Rising b l → has T l ≡ true → sum (other T) l + 1 ≡ length l
unfolding sum has any
sum_others T none h = absurd (true≢false (sym h))
sum_others T (next {x} {l} k r) h = go (eqb T x) refl (sum_others T r)
  where
    go : (t : Bool) → eqb T x ≡ t → (any (eqb T) l ≡ true → sum (other T) l + 1 ≡ length l) → ind (not t) + sum (other T) l + 1 ≡ suc (length l)
    go true q f = omega (arith, sum-all T l (fails _ (λ m. omega (arith, has_bound T r m, eqb-true T x q))))
    go false q f = omega (arith, f (rw q at h))

module _ (load : Load) (place : List ℕ) (T : ℕ) (there : has T place ≡ true) where
  all_others : sum (other T) (rising place) + 1 ≡ length (rising place)
  all_others = sum_others T (rising-rising place) (has-rising T place ∙ there)

  -- at most as many as there are other occupied sets
  pub reach_bound : reach load place T + 1 ≤ length (rising place)
  unfolding reach
  reach_bound = omega (arith, all_others, sum_le (λ X. ind (via (edge load place) place T X && not (eqb T X))) (other T) (rising place) (λ X. go (via (edge load place) place T X) (not (eqb T X))))
    where
      go : (t u : Bool) → ind (t && u) ≤ ind u
      go true u = omega arith
      go false u = omega arith

  -- and it is that where every other chunk is reached
  pub reach-all : ((Z : ℕ) → has Z place ≡ true → (Z ≡ T → ⊥) → via (edge load place) place T Z ≡ true) → reach load place T + 1 ≡ length (rising place)
  unfolding reach
  reach-all f =
      omega (arith, all_others, sum_same (λ X. ind (via (edge load place) place T X && not (eqb T X))) (other T) (rising place) (λ X h. go X (sym (has-rising X place) ∙ h) (eqb T X) refl))
    where
      go : (X : ℕ) → has X place ≡ true → (t : Bool) → eqb T X ≡ t → ind (via (edge load place) place T X && not t) ≡ ind (not t)
      go X h true q = ap ind (and-false (via (edge load place) place T X))
      go X h false q = rw (f X h (λ e. eqb-false T X q (sym e))) refl

-- distinct sets are as many chunks
insert_longer : (x : ℕ) (l : List ℕ) → has x l ≡ false → length (insert x l) ≡ suc (length l)
unfolding insert has any
insert_longer x [] h = refl
insert_longer x (y ∷ l) h = go (ltb x y) (insert_longer x l (or_false_right (eqb x y) _ h))
  where
    go : (t : Bool) → length (insert x l) ≡ suc (length l) → length (cond (eqb x y) (y ∷ l) (cond t (x ∷ y ∷ l) (y ∷ insert x l))) ≡ suc (suc (length l))
    go true q = rw (or_false_left (eqb x y) _ h) refl
    go false q = rw (or_false_left (eqb x y) _ h) (ap suc q)

pub rising-length : (l : List ℕ) → Apart l → length (rising l) ≡ length l
unfolding rising
rising-length [] d = refl
rising-length (x ∷ l) d =
    insert_longer x (rising l) (has-rising x l ∙ fails _ (λ h. let r = has-place x l h in d 0 (suc r.0) (omega arith) (omega (arith, r.1)) (sym r.2)))
    ∙ ap suc (rising-length l (λ i j a b. d (suc i) (suc j) (omega arith) (omega arith)))

-- in an acyclic graph these are the nodes that a walk from the chunk's node comes to
module _ {load : Load} {nodes sets : List ℕ} (o : InOrder load) (p : Placing load nodes sets) (n : ℕ) (few : length sets ≤ n) where
  abbrev pub place : List ℕ
  place = placed nodes sets
