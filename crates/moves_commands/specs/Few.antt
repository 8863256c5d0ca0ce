-- A graph has at most as many distinct edges as there are dependency entries and entry bits. Assumes nothing.
use Rattle.std.specs.Prelude.{◌≡◌, refl, Bool, true, false, not, cond, List, eqb, ltb}
use Rattle.std.proofs.Math.Path.{sym}
use Rattle.std.proofs.Common.{ap, ◌∙◌}
use Prim.Native.Nat.{ℕ, zero, suc, ◌+◌, ◌^◌, ◌≤◌, ◌<◌}
use native.Mathlib.Omega.{arith}
use Rattle.std.proofs.Math.Decide.{dec_le}
use Rattle.std.proofs.Math.ListN.{length}
use borrow.Author.Tests.{eqb-true, ltb-true}
use Rattle.graphs.specs.Bools.{and_left, and_right}
use Rattle.graphs.specs.Count.{ind, count, ind_le}
use Rattle.graphs.specs.Total.{total, total-same, count-total}
use Rattle.move_ledger.specs.Graph.{Load, at, none, owner, lies, occupied, entry, facade, mult, edge, rising, row, edges}
use Rattle.move_ledger.specs.Listing.{Rising, next, rising-rising}
use Rattle.move_ledger.specs.Listing as listing
use Rattle.move_ledger.specs.Edges.{row-length, rows-length}

total_add : (f g : ℕ → ℕ) (n : ℕ) → total (λ i. f i + g i) n ≡ total f n + total g n
unfolding total
total_add f g zero = refl
total_add f g (suc n) = omega (arith, total_add f g n)

total_mono : (f g : ℕ → ℕ) (n : ℕ) → ((i : ℕ) → i < n → f i ≤ g i) → total f n ≤ total g n
unfolding total
total_mono f g zero h = omega arith
total_mono f g (suc n) h = omega (arith, total_mono f g n (λ i b. h i (omega arith)), h n (omega arith))

total_zero : (f : ℕ → ℕ) (n : ℕ) → ((i : ℕ) → i < n → f i ≡ 0) → total f n ≡ 0
unfolding total
total_zero f zero h = refl
total_zero f (suc n) h = omega (arith, total_zero f n (λ i b. h i (omega arith)), h n (omega arith))

-- a sum of which at most one number isn't 0
total_one : (f : ℕ → ℕ) (n : ℕ) → ((i : ℕ) → i < n → f i ≤ 1) → ((i j : ℕ) → i < n → j < n → 1 ≤ f i → 1 ≤ f j → i ≡ j) → total f n ≤ 1
unfolding total
total_one f zero b u = omega arith
total_one f (suc n) b u = go (dec_le 1 (f n)) (total_one f n (λ i l. b i (omega arith)) (λ i j l m. u i j (omega arith) (omega arith)))
  where
    others : 1 ≤ f n → (i : ℕ) → i < n → f i ≡ 0
    others h i l = pick (dec_le 1 (f i))
      where
        pick : Dec (1 ≤ f i) → f i ≡ 0
        pick (yes z) = absurd (omega (arith, u i n (omega arith) (omega arith) z h))
        pick (no z) = omega arith

    go : Dec (1 ≤ f n) → total f n ≤ 1 → total f n + f n ≤ 1
    go (yes z) h = omega (arith, b n (omega arith), total_zero f n (others z))
    go (no z) h = omega arith

total-found : (f : ℕ → ℕ) (n : ℕ) → 1 ≤ total f n → (i : ℕ) × (i < n) × (1 ≤ f i)
unfolding total
total-found f zero h = absurd (omega arith)
total-found f (suc n) h = go (dec_le 1 (f n)) (total-found f n)
  where
    go : Dec (1 ≤ f n) → (1 ≤ total f n → (i : ℕ) × (i < n) × (1 ≤ f i)) → (i : ℕ) × (i < suc n) × (1 ≤ f i)
    go (yes z) r = (n, omega arith, z)
    go (no z) r = let q : (i : ℕ) × (i < n) × (1 ≤ f i) = r (omega arith) in (q.0, omega (arith, q.1), q.2)

ind_true : (t : Bool) → 1 ≤ ind t → t ≡ true
ind_true true h = refl
ind_true false h = absurd (omega arith)

-- the numbers of a rising list are distinct
rising_above : {b : ℕ} {l : List ℕ} → Rising b l → (j : ℕ) → j < length l → b ≤ at l j
rising_above listing.none j h = absurd (omega arith)
rising_above (next {x = x} k r) zero h = k
rising_above (next {x = x} k r) (suc j) h = omega (arith, rising_above r j (omega arith))

rising-distinct : {b : ℕ} {l : List ℕ} → Rising b l → (i j : ℕ) → i < length l → j < length l → at l i ≡ at l j → i ≡ j
rising-distinct listing.none i j h g e = absurd (omega arith)
rising-distinct (next k r) zero zero h g e = refl
rising-distinct (next k r) zero (suc j) h g e = absurd (omega (arith, rising_above r j (omega arith)))
rising-distinct (next k r) (suc i) zero h g e = absurd (omega (arith, rising_above r i (omega arith)))
rising-distinct (next k r) (suc i) (suc j) h g e = ap suc (rising-distinct r i j (omega arith) (omega arith) e)

-- each of m things joins one pair of sets at most
module _ (l : List ℕ) (r : Rising 0 l) (h : ℕ → ℕ → ℕ → Bool) (u v : ℕ → ℕ) (one : (X Y k : ℕ) → h X Y k ≡ true → (X ≡ u k) × (Y ≡ v k)) where
  pair : (k : ℕ) → total (λ i. total (λ j. ind (h (at l i) (at l j) k)) (length l)) (length l) ≤ 1
  pair k =
      total_one _ (length l) (λ i b. total_one _ (length l) (λ j c. ind_le (h (at l i) (at l j) k)) (λ j j' c c' p q. to i j j' c c' p q))
      (λ i i' b b' p q. from i i' b b' (total-found _ (length l) p) (total-found _ (length l) q))
    where
      to : (i j j' : ℕ) → j < length l → j' < length l → 1 ≤ ind (h (at l i) (at l j) k) → 1 ≤ ind (h (at l i) (at l j') k) → j ≡ j'
      to i j j' c c' p q = rising-distinct r j j' c c' ((one _ _ k (ind_true _ p)).1 ∙ sym (one _ _ k (ind_true _ q)).1)

      from : (i i' : ℕ) → i < length l → i' < length l → (j : ℕ) × (j < length l) × (1 ≤ ind (h (at l i) (at l j) k)) → (j : ℕ) × (j < length l) × (1 ≤ ind (h (at l i') (at l j) k)) → i ≡ i'
      from i i' b b' p q = rising-distinct r i i' b b' ((one _ _ k (ind_true _ p.2)).0 ∙ sym (one _ _ k (ind_true _ q.2)).0)

  pairs : (k : ℕ) → total (λ i. total (λ j. count (h (at l i) (at l j)) k) (length l)) (length l) ≤ k
  unfolding count
  pairs zero = omega (arith, total_zero (λ i. total (λ j. 0) (length l)) (length l) (λ i b. total_zero (λ j. 0) (length l) (λ j c. refl)))
  pairs (suc k) =
      let e : total (λ i. total (λ j. count (h (at l i) (at l j)) k + ind (h (at l i) (at l j) k)) (length l)) (length l)
      ≡ total (λ i. total (λ j. count (h (at l i) (at l j)) k) (length l)) (length l) + total (λ i. total (λ j. ind (h (at l i) (at l j) k)) (length l)) (length l) =
      total-same _ _ (length l) (λ i b. total_add (λ j. count (h (at l i) (at l j)) k) (λ j. ind (h (at l i) (at l j) k)) (length l))
      ∙ total_add (λ i. total (λ j. count (h (at l i) (at l j)) k) (length l)) (λ i. total (λ j. ind (h (at l i) (at l j) k)) (length l)) (length l) in
      omega (arith, e, pairs k, pair k)

module _ (load : Load) (p : List ℕ) where
  lies_at : (i X : ℕ) → lies load p i X ≡ true → at p i ≡ X
  unfolding lies
  lies_at i X h = eqb-true _ _ (and_right (ltb i load.A) _ h)

  entry-ends : (X Y k : ℕ) → entry load p X Y k ≡ true → (X ≡ at p (owner load k)) × (Y ≡ at p (at load.dependencies k))
  unfolding entry
  entry-ends X Y k h = (sym (lies_at _ X (and_left _ _ h)), sym (lies_at _ Y (and_right (lies load p (owner load k) X) _ h)))

  facade-ends : (X Y e : ℕ) → facade load p X Y e ≡ true → (X ≡ 2 ^ e) × (Y ≡ at p (at load.hosts e))
  unfolding facade
  facade-ends X Y e h =
      let q = and_right (eqb X (2 ^ e)) _ h in
      let s = and_right (occupied load p X) _ q in
      (eqb-true _ _ (and_left (eqb X (2 ^ e)) _ h), sym (lies_at _ Y (and_right (not (eqb (at load.hosts e) none)) _ s)))

  edge_few : (X Y : ℕ) → ind (edge load p X Y) ≤ count (entry load p X Y) load.D + count (facade load p X Y) load.E
  unfolding edge mult
  edge_few X Y = go (eqb X Y)
    where
      n : ℕ
      n = count (entry load p X Y) load.D + count (facade load p X Y) load.E

      pos : (t : Bool) (k : ℕ) → ltb 0 k ≡ t → ind t ≤ k
      pos true k e = omega (arith, ltb-true 0 k e)
      pos false k e = omega arith

      go : (t : Bool) → ind (ltb 0 (cond t 0 n)) ≤ n
      go true = omega arith
      go false = pos (ltb 0 n) n refl

  pub edges_few : length (edges load p) ≤ load.D + load.E
  unfolding edges
  edges_few =
      let l = rising p in
      let n = length l in
      let r = rising-rising p in
      let a = rows-length load p l l in
      let b = total_mono (λ i. length (row load p (at l i) l)) (λ i. total (λ j. count (entry load p (at l i) (at l j)) load.D + count (facade load p (at l i) (at l j)) load.E) n) n
      (λ i q. omega (
        arith,
        row-length load p (at l i) l,
        count-total (λ j. edge load p (at l i) (at l j)) n,
        total_mono (λ j. ind (edge load p (at l i) (at l j))) (λ j. count (entry load p (at l i) (at l j)) load.D + count (facade load p (at l i) (at l j)) load.E) n (λ j z. edge_few (at l i) (at l j)),
      )) in
      let c = total-same (λ i. total (λ j. count (entry load p (at l i) (at l j)) load.D) n + total (λ j. count (facade load p (at l i) (at l j)) load.E) n)
      (λ i. total (λ j. count (entry load p (at l i) (at l j)) load.D + count (facade load p (at l i) (at l j)) load.E) n) n
      (λ i q. total_add (λ j. count (entry load p (at l i) (at l j)) load.D) (λ j. count (facade load p (at l i) (at l j)) load.E) n) in
      let d = total_add (λ i. total (λ j. count (entry load p (at l i) (at l j)) load.D) n) (λ i. total (λ j. count (facade load p (at l i) (at l j)) load.E) n) n in
      omega (
        arith,
        a,
        b,
        c,
        d,
        pairs l r (entry load p) (λ k. at p (owner load k)) (λ k. at p (at load.dependencies k)) entry-ends load.D,
        pairs l r (facade load p) (λ e. 2 ^ e) (λ e. at p (at load.hosts e)) facade-ends load.E,
      )
