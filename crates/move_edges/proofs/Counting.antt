-- How many distinct edges come and go as the matrix follows slots. Assumes nothing.
use mathlib.Core.Path.{◌≡◌, refl, sym, ap, ◌∙◌}
use mathlib.Core.List.{List, ◌++◌}
use mathlib.Core.Bool.{Bool, true, false, cond, not, ◌&&◌}
use Prim.Native.Nat.{ℕ, zero, suc, ◌+◌, ◌*◌, ◌≤◌, ◌<◌}
use native.Mathlib.Omega.{arith}
use lib.Dec.{eqb, ltb}
use mir.Val.{bool_byte}
use lib.ListN.{get_or, drop, replicate}
use borrow.Author.Tests.{eq-eqb, ne_eqb, lt-ltb}
use Rattle.graphs.specs.Count.{ind, count, count_ext, count-all_no}
use Rattle.graphs.specs.Total.{count-total, total_change}
use Rattle.graphs.specs.Square.{index_lt}
use Rattle.graphs.specs.Slots.{stands, cell, flat, added, removed}
use Rattle.graphs.specs.SlotLaws.{more-at}
use Rattle.move_edges.specs.Steps.{within-place, CanGain, CanShed, CanUpdate, CanFill, filled, appears, vanishes, Changed, changed, gained, lost, Grown, Fallen}
use Rattle.move_edges.proofs.Following.{gain_at, shed_at, balance, lost_le, gain_can, shed_can, zero_at, fill_can}

-- a flag as a number
pub told : (b : Bool) → bool_byte b ≡ ind b
told true = refl
told false = refl

pub byte_le : (b : Bool) → bool_byte b ≤ 1
byte_le true = omega arith
byte_le false = omega arith

-- one place of a count changes
count_one : (p q : ℕ → Bool) (k i : ℕ) → i < k → ((j : ℕ) → (j ≡ i → ⊥) → q j ≡ p j) → count q k + ind (p i) ≡ count p k + ind (q i)
count_one p q k i b h =
    omega (arith, count-total p k, count-total q k, total_change (λ j. ind (p j)) (λ j. ind (q j)) k i b (λ j c d. ap ind (h j d)))

same_ltb : (x y : ℕ) → x ≡ y → ltb 0 x ≡ ltb 0 y
same_ltb x y e = ap (ltb 0) e

above : (k : ℕ) → ltb 0 k ≡ not (eqb k 0)
above zero = refl
above (suc k) = lt-ltb 0 (suc k) (omega arith) ∙ sym (ap not (ne_eqb (suc k) 0 (λ e. omega arith)))

-- a slot's new edge is one distinct edge more exactly where it appears
module _ (n a b : ℕ) (ha : a < n) (hb : b < n) (e e' : List ℕ) (t : Bool) where
  filled_more : ((i : ℕ) → get_or e' i 0 ≡ get_or e i 0 + ind (t && stands n a b i)) → filled e' n ≡ filled e n + ind (t && appears e n a b)
  unfolding filled
  filled_more f = go t (eqb a b) refl refl
    where
      i : ℕ
      i = a * n + b

      go : (u w : Bool) → t ≡ u → eqb a b ≡ w → filled e' n ≡ filled e n + ind (u && (not w && eqb (get_or e i 0) 0))
      go true true p q = omega (arith, count_ext (λ j. ltb 0 (get_or e' j 0)) (λ j. ltb 0 (get_or e j 0)) (n * n) (λ j c. same_ltb (get_or e' j 0) (get_or e j 0) (let z : get_or e' j 0 ≡ get_or e j 0 + 0 = rw (p, q) at (f j) in omega arith)))
      go true false p q =
          omega (arith, count_one (λ j. ltb 0 (get_or e j 0)) (λ j. ltb 0 (get_or e' j 0)) (n * n) i (index_lt n a b ha hb) other, here (eqb (get_or e i 0) 0) refl)
        where
          other : (j : ℕ) → (j ≡ i → ⊥) → ltb 0 (get_or e' j 0) ≡ ltb 0 (get_or e j 0)
          other j d = same_ltb (get_or e' j 0) (get_or e j 0) (let z : get_or e' j 0 ≡ get_or e j 0 + 0 = rw (p, q, ne_eqb i j (λ z. d (sym z))) at (f j) in omega arith)

          new : get_or e' i 0 ≡ get_or e i 0 + 1
          new = rw (p, q, eq-eqb i i refl) at (f i)

          here : (r : Bool) → eqb (get_or e i 0) 0 ≡ r → ind (ltb 0 (get_or e' i 0)) ≡ ind (ltb 0 (get_or e i 0)) + ind r
          here true z = rw (lt-ltb 0 (get_or e' i 0) (omega (arith, new)), above (get_or e i 0), z) refl
          here false z = rw (lt-ltb 0 (get_or e' i 0) (omega (arith, new)), above (get_or e i 0), z) refl
      go false w p q = omega (arith, count_ext (λ j. ltb 0 (get_or e' j 0)) (λ j. ltb 0 (get_or e j 0)) (n * n) (λ j c. same_ltb (get_or e' j 0) (get_or e j 0) (let z : get_or e' j 0 ≡ get_or e j 0 + 0 = rw p at (f j) in omega arith)))

-- what is counted in two parts
count-parts : (p q r : ℕ → Bool) (k : ℕ) → ((j : ℕ) → j < k → ind (p j) ≡ ind (q j) + ind (r j)) → count p k ≡ count q k + count r k
unfolding count
count-parts p q r zero h = refl
count-parts p q r (suc k) h = omega (arith, count-parts p q r k (λ j b. h j (omega arith)), h k (omega arith))

-- one place: S before, U after, E in between
come : (S U E : ℕ) → S ≤ E → (S ≡ 0 → E ≡ U) → ind (ltb 0 E) ≡ ind (eqb S 0 && ltb 0 U) + ind (ltb 0 S)
come zero U E b f = rw (f refl) (omega arith)
come (suc S) U E b f = rw (lt-ltb 0 E (omega arith), lt-ltb 0 (suc S) (omega arith), ne_eqb (suc S) 0 (λ e. omega arith)) refl

-- an edge in both graphs is there all the time: so it counts neither as appeared nor as vanished
module _ {e₀ : List ℕ} {n : ℕ} {s t u v : List ℕ} {m : ℕ} (can : CanUpdate e₀ n s t u v m) {e₁ e₂ : List ℕ}
    (g : Grown (gained s t u v n) m e₀ e₁) (f : Fallen (lost s t u v n) m e₁ e₂) where
  pub update_changes : {x y : ℕ} → x + filled e₀ n ≡ filled e₁ n → y + filled e₂ n ≡ filled e₁ n → Changed n s t u v m x y
  unfolding filled
  update_changes {x} {y} p q =
      record {
        appeared = omega (arith, count-parts (λ i. ltb 0 (get_or e₁ i 0)) (λ i. eqb (flat s t n m i) 0 && ltb 0 (flat u v n m i)) (λ i. ltb 0 (get_or e₀ i 0)) (n * n) forth);
        vanished = omega (arith, count-parts (λ i. ltb 0 (get_or e₁ i 0)) (λ i. eqb (flat u v n m i) 0 && ltb 0 (flat s t n m i)) (λ i. ltb 0 (get_or e₂ i 0)) (n * n) back);
      }
    where
      last : (i : ℕ) → i < n * n → get_or e₂ i 0 ≡ flat u v n m i
      last i h = omega (arith, f.at i, g.at i, can.holds.at i h, balance n s t u v i m)

      forth : (i : ℕ) → i < n * n → ind (ltb 0 (get_or e₁ i 0)) ≡ ind (eqb (flat s t n m i) 0 && ltb 0 (flat u v n m i)) + ind (ltb 0 (get_or e₀ i 0))
      forth i h =
          rw (can.holds.at i h)
          (come (flat s t n m i) (flat u v n m i) (get_or e₁ i 0) (omega (arith, g.at i, can.holds.at i h))
          (λ z. omega (arith, f.at i, g.at i, can.holds.at i h, balance n s t u v i m, lost_le n s t u v i m)))

      back : (i : ℕ) → i < n * n → ind (ltb 0 (get_or e₁ i 0)) ≡ ind (eqb (flat u v n m i) 0 && ltb 0 (flat s t n m i)) + ind (ltb 0 (get_or e₂ i 0))
      back i h =
          rw (last i h)
          (come (flat u v n m i) (flat s t n m i) (get_or e₁ i 0) (omega (arith, f.at i, last i h))
          (λ z. omega (arith, f.at i, g.at i, can.holds.at i h, balance n s t u v i m, lost_le n s t u v i m)))

-- a slot's old edge is one distinct edge less exactly where it vanishes
module _ (n a b : ℕ) (ha : a < n) (hb : b < n) (e e' : List ℕ) (t : Bool) (there : t ≡ true → (a ≡ b → ⊥) → 1 ≤ get_or e (a * n + b) 0) where
  filled-less : ((i : ℕ) → get_or e' i 0 + ind (t && stands n a b i) ≡ get_or e i 0) → ind (t && vanishes e n a b) + filled e' n ≡ filled e n
  unfolding filled
  filled-less f = go t (eqb a b) refl refl
    where
      i : ℕ
      i = a * n + b

      go : (u w : Bool) → t ≡ u → eqb a b ≡ w → ind (u && (not w && eqb (get_or e i 0) 1)) + filled e' n ≡ filled e n
      go true true p q = omega (arith, count_ext (λ j. ltb 0 (get_or e' j 0)) (λ j. ltb 0 (get_or e j 0)) (n * n) (λ j c. same_ltb (get_or e' j 0) (get_or e j 0) (let z : get_or e' j 0 + 0 ≡ get_or e j 0 = rw (p, q) at (f j) in omega arith)))
      go true false p q =
          omega (arith, count_one (λ j. ltb 0 (get_or e j 0)) (λ j. ltb 0 (get_or e' j 0)) (n * n) i (index_lt n a b ha hb) other, here (get_or e i 0) (get_or e' i 0) new)
        where
          other : (j : ℕ) → (j ≡ i → ⊥) → ltb 0 (get_or e' j 0) ≡ ltb 0 (get_or e j 0)
          other j d = same_ltb (get_or e' j 0) (get_or e j 0) (let z : get_or e' j 0 + 0 ≡ get_or e j 0 = rw (p, q, ne_eqb i j (λ z. d (sym z))) at (f j) in omega arith)

          new : get_or e' i 0 + 1 ≡ get_or e i 0
          new = rw (p, q, eq-eqb i i refl) at (f i)

          here : (x y : ℕ) → y + 1 ≡ x → ind (eqb x 1) + ind (ltb 0 y) ≡ ind (ltb 0 x)
          here x zero z = let w : x ≡ 1 = omega arith in rw w refl
          here x (suc y) z = rw (lt-ltb 0 (suc y) (omega arith), lt-ltb 0 x (omega arith), ne_eqb x 1 (λ e. omega arith)) refl
      go false w p q = omega (arith, count_ext (λ j. ltb 0 (get_or e' j 0)) (λ j. ltb 0 (get_or e j 0)) (n * n) (λ j c. same_ltb (get_or e' j 0) (get_or e j 0) (let z : get_or e' j 0 + 0 ≡ get_or e j 0 = rw p at (f j) in omega arith)))

module _ {e₀ : List ℕ} {n : ℕ} {s t u v : List ℕ} {m : ℕ} where
  pub gain_tally : CanGain e₀ n s t u v m → {e : List ℕ} {k : ℕ} → Grown (gained s t u v n) k e₀ e → k < m → {e' : List ℕ}
      → e' ≡ cond (changed s t u v k) (added e n (get_or u k 0) (get_or v k 0)) e → (x : ℕ) {r : ℕ} → r ≡ ind (changed s t u v k && appears e n (get_or u k 0) (get_or v k 0))
      → x + filled e₀ n ≡ filled e n → (x + r) + filled e₀ n ≡ filled e' n
  gain_tally can {e} {k} h l {e'} q x {r} w z =
      omega (
        arith,
        w,
        z,
        filled_more n (get_or u k 0) (get_or v k 0) (can.both.new_ends.source k l) (can.both.new_ends.target k l) e e' (changed s t u v k)
            (λ i. rw q (gain_at e n (get_or s k 0) (get_or t k 0) (get_or u k 0) (get_or v k 0) (gain_can can h l).add i)),
      )

  pub shed_tally : CanShed e₀ n s t u v m → {e : List ℕ} {k : ℕ} → Fallen (lost s t u v n) k e₀ e → k < m → {e' : List ℕ}
      → e' ≡ cond (changed s t u v k) (removed e n (get_or s k 0) (get_or t k 0)) e → (x : ℕ) {r : ℕ} → r ≡ ind (changed s t u v k && vanishes e n (get_or s k 0) (get_or t k 0))
      → x + filled e n ≡ filled e₀ n → (x + r) + filled e' n ≡ filled e₀ n
  shed_tally can {e} {k} h l {e'} q x {r} w z =
      omega (
        arith,
        w,
        z,
        filled-less n (get_or s k 0) (get_or t k 0) (can.both.ends.source k l) (can.both.ends.target k l) e e' (changed s t u v k) (shed_can can h l).there
            (λ i. rw q (shed_at e n (get_or s k 0) (get_or t k 0) (get_or u k 0) (get_or v k 0) (shed_can can h l).within (shed_can can h l).there i)),
      )

-- from nothing: no number is there, and each edge that appears is one more
module _ {n : ℕ} {s t : List ℕ} {m : ℕ} {e₀ : List ℕ} (can : CanFill e₀ n s t m) {e₁ : List ℕ} (c : e₁ ≡ replicate (n * n) 0 ++ drop (n * n) e₀) where
  pub fill_none : filled e₁ n ≡ 0
  unfolding filled
  fill_none = count-all_no (λ i. ltb 0 (get_or e₁ i 0)) (n * n) (λ i b. same_ltb (get_or e₁ i 0) 0 (zero_at can c i b))

  pub fill_tally : {k : ℕ} {e : List ℕ} → Grown (cell s t n) k e₁ e → k < m → {e' : List ℕ} → e' ≡ added e n (get_or s k 0) (get_or t k 0)
      → (x : ℕ) {r : ℕ} → r ≡ ind (appears e n (get_or s k 0) (get_or t k 0)) → x ≡ filled e n → x + r ≡ filled e' n
  fill_tally {k} {e} h l {e'} q x w z =
      let a = get_or s k 0 in
      let b = get_or t k 0 in
      omega (
        arith,
        w,
        z,
        filled_more n a b (can.ends.source k l) (can.ends.target k l) e e' true (λ i. rw q (more-at e (a * n + b) a b i (within-place (fill_can can c h l).within))),
      )
