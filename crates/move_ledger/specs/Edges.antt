-- For the code: the listing of edges over any rising list of sets that holds those of the placement, counted row by row. Assumes nothing.
use Prim.Native.Nat.{ℕ, zero, suc, ◌+◌, ◌≤◌, ◌<◌}
use native.Mathlib.Omega.{arith}
use Rattle.std.specs.Prelude.{◌≡◌, Bool}
use Rattle.std.proofs.Math.Path.{refl, sym, ap}
use Rattle.std.proofs.Common.{◌∙◌}
use Rattle.std.proofs.Math.Bool.{true, false, cond}
use mathlib.Core.List.{List, [], ◌∷◌, ◌++◌}
use Rattle.std.proofs.Math.ListN.{length, length-append}
use Rattle.graphs.specs.Count.{ind, count, count_none}
use Rattle.graphs.specs.Total.{total}
use Rattle.move_ledger.specs.Graph.{Load, Edge, at, mult, edge, row, rows}
use Rattle.move_ledger.specs.Answer.{Answer}
use Rattle.move_ledger.specs.Answer as answer
use Rattle.move_ledger.specs.Ledger.{kept, kth}
use Rattle.move_ledger.specs.Listing.{Rising, none, next}

weaker : {a b : ℕ} {l : List ℕ} → a ≤ b → Rising b l → Rising a l
weaker h none = none
weaker {a} {b} h (next {x} k r) = let z : a ≤ x = omega arith in next z r

pub kept-rising : (p : ℕ → Bool) {b : ℕ} {l : List ℕ} → Rising b l → Rising b (kept p l)
unfolding kept
kept-rising p none = none
kept-rising p {b} (next {x} {l} k r) = go (p x) (kept-rising p r)
  where
    go : (t : Bool) → Rising (suc x) (kept p l) → Rising b (cond t (x ∷ kept p l) (kept p l))
    go true h = next k h
    go false h = weaker (omega arith) h

-- a list that rises at each place
pub rising_of : (b : ℕ) (l : List ℕ) → ((i : ℕ) → i < length l → b ≤ at l i) → ((i : ℕ) → suc i < length l → at l i < at l (suc i)) → Rising b l
rising_of b [] f g = none
rising_of b (x ∷ l) f g = next (f 0 (omega arith)) (rising_of (suc x) l (λ i h. up i h) (λ i h. g (suc i) (omega arith)))
  where
    up : (i : ℕ) → i < length l → suc x ≤ at l i
    up zero h = g 0 (omega arith)
    up (suc i) h = omega (arith, up i (omega arith), g (suc i) (omega arith))

-- counting and adding from the first
count-first : (q : ℕ → Bool) (k : ℕ) → count q (suc k) ≡ ind (q 0) + count (λ j. q (suc j)) k
unfolding count
count-first q zero = omega arith
count-first q (suc k) = omega (arith, count-first q k)

pub total_first : (f : ℕ → ℕ) (k : ℕ) → total f (suc k) ≡ f 0 + total (λ j. f (suc j)) k
unfolding total
total_first f zero = omega arith
total_first f (suc k) = omega (arith, total_first f k)

-- past the last edge
pub kth_past : (es : List Edge) (k : ℕ) → length es ≤ k → kth es k ≡ answer.none
unfolding kth
kth_past [] k h = refl
kth_past (e ∷ es) zero h = absurd (omega arith)
kth_past (e ∷ es) (suc k) h = kth_past es k (omega arith)

kth-left : (es fs : List Edge) (k : ℕ) → k < length es → kth (es ++ fs) k ≡ kth es k
unfolding kth
kth-left [] fs k h = absurd (omega arith)
kth-left (e ∷ es) fs zero h = refl
kth-left (e ∷ es) fs (suc k) h = kth-left es fs k (omega arith)

kth_right : (es fs : List Edge) (k : ℕ) → kth (es ++ fs) (length es + k) ≡ kth fs k
unfolding kth
kth_right [] fs k = let z : 0 + k ≡ k = omega arith in rw z refl
kth_right (e ∷ es) fs k = let z : suc (length es) + k ≡ suc (length es + k) = omega arith in rw z (kth_right es fs k)

module _ (load : Load) (p : List ℕ) where
  -- a row has as many edges as there are sets in the list to which one leads
  pub row-length : (X : ℕ) (Ys : List ℕ) → length (row load p X Ys) ≡ count (λ j. edge load p X (at Ys j)) (length Ys)
  unfolding row
  row-length X [] = sym (count_none _)
  row-length X (Y ∷ Ys) = go (edge load p X Y) refl (row-length X Ys) ∙ sym (count-first (λ j. edge load p X (at (Y ∷ Ys) j)) (length Ys))
    where
      n : ℕ
      n = count (λ j. edge load p X (at Ys j)) (length Ys)

      go : (t : Bool) → edge load p X Y ≡ t → length (row load p X Ys) ≡ n
          → length (cond t (record { from = X; to = Y; multiplicity = mult load p X Y } ∷ row load p X Ys) (row load p X Ys)) ≡ ind (edge load p X Y) + n
      go true e h = rw e (omega arith)
      go false e h = rw e (omega arith)

  -- and the one to the set at j comes after those to the sets before it
  pub kth-row : (X : ℕ) (Ys : List ℕ) (j : ℕ) → j < length Ys → edge load p X (at Ys j) ≡ true
      → kth (row load p X Ys) (count (λ i. edge load p X (at Ys i)) j) ≡ answer.edge (record { from = X; to = at Ys j; multiplicity = mult load p X (at Ys j) })
  unfolding row kth
  kth-row X [] j h e = absurd (omega arith)
  kth-row X (Y ∷ Ys) zero h e = rw (e, count_none (λ i. edge load p X (at (Y ∷ Ys) i))) refl
  kth-row X (Y ∷ Ys) (suc j) h e = rw (count-first (λ i. edge load p X (at (Y ∷ Ys) i)) j) (go (edge load p X Y) refl (kth-row X Ys j (omega arith) e))
    where
      n : ℕ
      n = count (λ i. edge load p X (at Ys i)) j

      there : Answer
      there = answer.edge (record { from = X; to = at Ys j; multiplicity = mult load p X (at Ys j) })

      go : (t : Bool) → edge load p X Y ≡ t → kth (row load p X Ys) n ≡ there
          → kth (cond t (record { from = X; to = Y; multiplicity = mult load p X Y } ∷ row load p X Ys) (row load p X Ys)) (ind (edge load p X Y) + n) ≡ there
      go true q f = let z : 1 + n ≡ suc n = omega arith in rw (q, z) f
      go false q f = let z : 0 + n ≡ n = omega arith in rw (q, z) f

  -- all rows together
  pub rows-length : (Xs Ys : List ℕ) → length (rows load p Xs Ys) ≡ total (λ i. length (row load p (at Xs i) Ys)) (length Xs)
  unfolding rows total
  rows-length [] Ys = refl
  rows-length (X ∷ Xs) Ys =
      let h : length (row load p X Ys ++ rows load p Xs Ys) ≡ length (row load p X Ys) + length (rows load p Xs Ys) = length-append (row load p X Ys) (rows load p Xs Ys) in
      h ∙ ap (λ n. length (row load p X Ys) + n) (rows-length Xs Ys) ∙ sym (total_first (λ i. length (row load p (at (X ∷ Xs) i) Ys)) (length Xs))

  pub kth-rows : (Xs Ys : List ℕ) (i c : ℕ) → i < length Xs → c < length (row load p (at Xs i) Ys)
      → kth (rows load p Xs Ys) (total (λ i. length (row load p (at Xs i) Ys)) i + c) ≡ kth (row load p (at Xs i) Ys) c
  unfolding rows total
  kth-rows [] Ys i c h l = absurd (omega arith)
  kth-rows (X ∷ Xs) Ys zero c h l = let z : 0 + c ≡ c = omega arith in rw z (kth-left (row load p X Ys) (rows load p Xs Ys) c l)
  kth-rows (X ∷ Xs) Ys (suc i) c h l =
      let n : ℕ = total (λ i. length (row load p (at Xs i) Ys)) i in
      let z : total (λ i. length (row load p (at (X ∷ Xs) i) Ys)) (suc i) + c ≡ length (row load p X Ys) + (n + c) = omega (arith, total_first (λ i. length (row load p (at (X ∷ Xs) i) Ys)) i) in
      ap (λ k. kth (row load p X Ys ++ rows load p Xs Ys) k) z ∙ kth_right (row load p X Ys) (rows load p Xs Ys) (n + c) ∙ kth-rows Xs Ys i c (omega arith) l
