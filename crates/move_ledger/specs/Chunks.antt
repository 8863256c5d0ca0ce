-- For the code: a sum over the chunks, by rising sets, is the sum over the nodes that have an atom. Assumes nothing.
use Rattle.std.specs.Prelude.{ℕ, zero, suc, ◌+◌, ◌-◌, ◌*◌, ◌≤◌, ◌<◌, ◌≡◌, refl, Bool, true, false, ◌&&◌, List, [], ◌∷◌, ltb, eqb}
use native.Mathlib.Omega.{arith}
use Rattle.std.proofs.Common.{sym, subst, ◌∙◌, true≢false, ne_eqb}
use Rattle.std.proofs.Math.Path.{ap}
use Rattle.std.proofs.Math.Bool.{cond}
use Rattle.std.proofs.Math.ListN.{length}
use Rattle.graphs.specs.Bools.{and_right, and_both, or_false_left, or_false_right, fails, alike}
use Rattle.graphs.specs.Count.{count-all_no}
use Rattle.graphs.specs.Total.{total, total-none, total-same}
use Rattle.graphs.specs.Lists.{any, has, has-at, has-place}
use Rattle.move_ledger.specs.Graph.{Load, at, members, occupied, insert, rising, sum}
use Rattle.move_ledger.specs.GraphLaws.{occupied-by, occupy}
use Rattle.move_ledger.specs.Listing.{rising-rising, has-rising, one_rising}
use Rattle.move_ledger.specs.Nodes.{placed, Placing}
use Rattle.move_ledger.specs.NodeLaws.{placed-length, placed_at, members-nodes}
use Rattle.move_ledger.specs.Ledger.{kept}
use Rattle.move_ledger.specs.Places.{has_kept, Apart}
use Rattle.move_ledger.specs.Evict.{total_noughts}
use Rattle.move_ledger.specs.Edges.{total_first}

pub sum-total : (f : ℕ → ℕ) (l : List ℕ) → sum f l ≡ total (λ j. f (at l j)) (length l)
unfolding sum
sum-total f [] = sym (total-none (λ j. f (at [] j)))
sum-total f (x ∷ l) = ap (λ k. f x + k) (sum-total f l) ∙ sym (total_first (λ j. f (at (x ∷ l) j)) (length l))

sum-insert : (f : ℕ → ℕ) (x : ℕ) (l : List ℕ) → has x l ≡ false → sum f (insert x l) ≡ f x + sum f l
unfolding sum insert has any
sum-insert f x [] h = refl
sum-insert f x (y ∷ l) h = go (ltb x y) (sum-insert f x l (or_false_right (eqb x y) _ h))
  where
    go : (t : Bool) → sum f (insert x l) ≡ f x + sum f l → sum f (cond (eqb x y) (y ∷ l) (cond t (x ∷ y ∷ l) (y ∷ insert x l))) ≡ f x + (f y + sum f l)
    go true q = rw (or_false_left (eqb x y) _ h) refl
    go false q = rw (or_false_left (eqb x y) _ h) (omega arith)

pub sum-rising : (f : ℕ → ℕ) (l : List ℕ) → Apart l → sum f (rising l) ≡ sum f l
unfolding rising sum
sum-rising f [] d = refl
sum-rising f (x ∷ l) d =
    sum-insert f x (rising l) (has-rising x l ∙ fails _ (λ h. let r = has-place x l h in d 0 (suc r.0) (omega arith) (omega (arith, r.1)) (sym r.2)))
    ∙ ap (λ k. f x + k) (sum-rising f l (λ i j a b. d (suc i) (suc j) (omega arith) (omega arith)))

-- the members that pass, and 0 for the others
pub sum_kept : (f : ℕ → ℕ) (p : ℕ → Bool) (l : List ℕ) → sum f (kept p l) ≡ sum (λ X. cond (p X) (f X) 0) l
unfolding sum kept
sum_kept f p [] = refl
sum_kept f p (x ∷ l) = go (p x) (sum_kept f p l)
  where
    go : (t : Bool) → sum f (kept p l) ≡ sum (λ X. cond (p X) (f X) 0) l → sum f (cond t (x ∷ kept p l) (kept p l)) ≡ cond t (f x) 0 + sum (λ X. cond (p X) (f X) 0) l
    go true q = ap (λ k. f x + k) q
    go false q = omega arith

-- a distinct list's kept members are distinct: no member stands behind itself
data Once : List ℕ → Type 0 where
  none : Once []
  next : {x : ℕ} {l : List ℕ} → has x l ≡ false → Once l → Once (x ∷ l)

apart_once : (l : List ℕ) → Apart l → Once l
apart_once [] d = none
apart_once (x ∷ l) d =
    next (fails _ (λ h. let r = has-place x l h in d 0 (suc r.0) (omega arith) (omega (arith, r.1)) (sym r.2))) (apart_once l (λ i j a b. d (suc i) (suc j) (omega arith) (omega arith)))

once_apart : {l : List ℕ} → Once l → Apart l
once_apart none i j a b e = omega arith
once_apart (next h o) i zero a b e = omega arith
once_apart (next {x} {l} h o) zero (suc j) a b e = true≢false (sym (subst (λ u. has u l ≡ true) (sym e) (has-at l j (omega arith))) ∙ h)
once_apart (next h o) (suc i) (suc j) a b e = once_apart o i j (omega arith) (omega arith) e

once_kept : (p : ℕ → Bool) {l : List ℕ} → Once l → Once (kept p l)
unfolding kept
once_kept p none = none
once_kept p (next {x} {l} h o) = go (p x) (once_kept p o)
  where
    go : (t : Bool) → Once (kept p l) → Once (cond t (x ∷ kept p l) (kept p l))
    go true q = next (has_kept p x l ∙ rw h refl) q
    go false q = q

grow : (f : ℕ → ℕ) (n d : ℕ) → ((x : ℕ) → n ≤ x → f x ≡ 0) → total f n ≡ total f (n + d)
unfolding total
grow f n zero h = ap (total f) (sym (native.Mathlib.Nat.add-zero n))
grow f n (suc d) h = rw (native.Mathlib.Nat.add-suc) (omega (arith, grow f n d h, h (n + d) (omega arith)))

-- the chunks are the registered sets that have an atom
module _ {load : Load} {nodes sets : List ℕ} (p : Placing load nodes sets) where
  abbrev place : List ℕ
  place = placed nodes sets

  abbrev busy : ℕ → Bool
  busy X = occupied load place X

  sets_apart : Apart sets
  sets_apart i j a b e = omega (arith, p.distinct i j (omega arith) b e)

  chunks : rising place ≡ rising (kept busy sets)
  chunks = one_rising (rising-rising place) (rising-rising (kept busy sets)) (λ Z. has-rising Z place ∙ same Z ∙ sym (has_kept busy Z sets) ∙ sym (has-rising Z (kept busy sets)))
    where
      long : length place ≡ load.A
      long = placed-length nodes sets ∙ p.atoms

      same : (Z : ℕ) → has Z place ≡ (has Z sets && busy Z)
      same Z = alike _ _ there back
        where
          there : has Z place ≡ true → (has Z sets && busy Z) ≡ true
          there h =
              let r = has-place Z place h in
              let b : r.0 < load.A = omega (arith, r.1, long) in
              and_both (has Z sets) _
              (subst (λ u. has u sets ≡ true) (sym (placed_at nodes sets r.0 (omega (arith, p.atoms))) ∙ r.2) (has-at sets (at nodes r.0) (p.inside r.0 b)))
              (occupy load place Z r.0 b r.2)

          back : (has Z sets && busy Z) ≡ true → has Z place ≡ true
          back h =
              let r = occupied-by load place Z (and_right (has Z sets) _ h) in
              subst (λ u. has u place ≡ true) r.2 (has-at place r.0 (omega (arith, r.1, long)))

  -- what is added up over the chunks is added up over the nodes
  pub chunk_sum : (f : ℕ → ℕ) (n : ℕ) → length sets ≤ n
      → sum f (rising place) ≡ total (λ x. cond (occupied load nodes x) (f (at sets x)) 0) n
  unfolding members
  chunk_sum f n few =
      ap (sum f) chunks ∙ sum-rising f (kept busy sets) (once_apart (once_kept busy (apart_once sets sets_apart))) ∙ sum_kept f busy sets
      ∙ sum-total (λ X. cond (busy X) (f X) 0) sets
      ∙ total-same _ _ (length sets) (λ x b. ap (λ k. cond (ltb 0 k) (f (at sets x)) 0) (sym (members-nodes p x b)))
      ∙ longer (n - length sets) ∙ ap (total (λ x. cond (occupied load nodes x) (f (at sets x)) 0)) (end)
    where
      end : length sets + (n - length sets) ≡ n
      end = omega arith

      free : (x : ℕ) → length sets ≤ x → cond (occupied load nodes x) (f (at sets x)) 0 ≡ 0
      free x b = ap (λ k. cond (ltb 0 k) (f (at sets x)) 0) (count-all_no (λ i. eqb (at nodes i) x) load.A (λ i c. ne_eqb (at nodes i) x (λ e. omega (arith, p.inside i c))))

      longer : (d : ℕ) → total (λ x. cond (occupied load nodes x) (f (at sets x)) 0) (length sets) ≡ total (λ x. cond (occupied load nodes x) (f (at sets x)) 0) (length sets + d)
      longer d = grow (λ x. cond (occupied load nodes x) (f (at sets x)) 0) (length sets) d free

total_on : (f : ℕ → ℕ) (n d : ℕ) → total f (n + d) ≡ total f n + total (λ y. f (n + y)) d
unfolding total
total_on f n zero = rw (native.Mathlib.Nat.add-zero n) (omega arith)
total_on f n (suc d) = rw (native.Mathlib.Nat.add-suc) (omega (arith, total_on f n d))

-- a square row by row
pub rows-total : (f : ℕ → ℕ) (n k : ℕ) → total f (k * n) ≡ total (λ x. total (λ y. f (x * n + y)) n) k
unfolding total
rows-total f n zero = rw (native.Mathlib.Nat.zero-mul) refl
rows-total f n (suc k) = rw (native.Mathlib.Nat.suc-mul) (total_on f (k * n) n ∙ ap (λ z. z + total (λ y. f (k * n + y)) n) (rows-total f n k))

pull : (t : Bool) (f : ℕ → ℕ) (n : ℕ) → cond t (total f n) 0 ≡ total (λ y. cond t (f y) 0) n
pull true f n = refl
pull false f n = sym (total_noughts n)

-- what is added up over the pairs of chunks is added up over a square of nodes
pub pair_sum : {load : Load} {nodes sets : List ℕ} → Placing load nodes sets → (f : ℕ → ℕ → ℕ) (cell : ℕ → ℕ) (n : ℕ) → length sets ≤ n
    → ((x y : ℕ) → x < n → y < n → cond (occupied load nodes x) (cond (occupied load nodes y) (f (at sets x) (at sets y)) 0) 0 ≡ cell (x * n + y))
    → sum (λ X. sum (f X) (rising (placed nodes sets))) (rising (placed nodes sets)) ≡ total cell (n * n)
pair_sum {load} {nodes} {sets} p f cell n few h =
    chunk_sum p (λ X. sum (f X) (rising (placed nodes sets))) n few
    ∙ total-same _ _ n (λ x hx.
    ap (λ k. cond (occupied load nodes x) k 0) (chunk_sum p (f (at sets x)) n few)
    ∙ pull (occupied load nodes x) (λ y. cond (occupied load nodes y) (f (at sets x) (at sets y)) 0) n
    ∙ total-same _ _ n (λ y hy. h x y hx hy))
    ∙ sym (rows-total cell n n)
