-- What the rows 1 to 8 leave where none of them fits. Assumes nothing.
use Prim.Native.Nat.{ℕ, zero, suc, ◌+◌, ◌*◌, ◌^◌, ◌≤◌, ◌<◌}
use native.Mathlib.Omega.{arith}
use Rattle.std.proofs.Common.{add-one, sym, ◌∙◌, true≢false}
use Rattle.std.proofs.Math.Decide.{ℕ_discrete, dec_lt}
use Rattle.std.specs.Prelude.{◌≡◌, ◌↔◌, not, ◌&&◌, List, ltb, length}
use Rattle.std.proofs.Math.Path.{refl, ap}
use Rattle.std.proofs.Math.Bool.{Bool, true, false, cond}
use Rattle.std.proofs.Math.Dec.{leb, eqb}
use borrow.Author.Tests.{ltb-false, leb-true, leb-false, le-leb, eqb-true, eqb-false, ne_eqb, not-false}
use Rattle.graphs.specs.Bools.{or_false_left, or_false_right, and_left, and_right, and_both, fails}
use Rattle.graphs.specs.Count.{ind, count, count_le}
use Rattle.graphs.specs.Lists.{some_below, some_none}
use Rattle.graphs.specs.Tab.{tab-length, tab-at}
use Rattle.graphs.specs.Walk.{cyclic}
use Rattle.move_ledger.specs.Graph.{Load, none, at, owner, edge}
use Rattle.move_ledger.specs.Answer.{refused, acyclic, is_refused}
use Rattle.move_ledger.specs.Answer as answer
use Rattle.move_ledger.specs.Loading.{row1, row2, row3, row4, row5, row6, marks_fit, sets_fit, lent_set, entry_sets, row7, row8, loading_row, loading}

-- how many pass, of a test that holds up to somewhere and fails from there on
module _ (p : ℕ → Bool) where
  count-all : (n : ℕ) → ((i : ℕ) → i < n → p i ≡ true) → count p n ≡ n
  unfolding count
  count-all zero f = refl
  count-all (suc n) f = rw (count-all n (λ i l. f i (omega arith)), f n (omega arith)) (add-one n)

  falls : (n : ℕ) → ((i j : ℕ) → i ≤ j → j < n → p j ≡ true → p i ≡ true) → (i : ℕ) → i < n → (p i ≡ true) ↔ (i < count p n)
  unfolding count
  falls zero d i l = absurd (omega arith)
  falls (suc n) d i l = go (p n) refl (falls n (λ i j a b. d i j a (omega arith)))
    where
      go : (t : Bool) → p n ≡ t → ((i : ℕ) → i < n → (p i ≡ true) ↔ (i < count p n)) → (p i ≡ true) ↔ (i < count p n + ind t)
      go true q f = let e = count-all n (λ j b. d j n (omega arith) (omega arith) q) in (λ h. omega arith, λ h. d i n (omega arith) (omega arith) q)
      go false q f = here (ℕ_discrete i n)
        where
          here : Dec (i ≡ n) → (p i ≡ true) ↔ (i < count p n + 0)
          here (yes z) = (λ h. absurd (true≢false (sym h ∙ ap p z ∙ q)), λ h. absurd (omega (arith, count_le p n)))
          here (no z) = let g = f i (omega arith) in (λ h. omega (arith, g.0 h), λ h. g.1 (omega arith))

-- what the rows 1 to 3 leave
pub record Sized (load : Load) (N size : ℕ) : Type 0 where
  pub atoms : load.A ≤ 512
  pub entries : load.D ≤ 8192
  pub bits : load.E ≤ 256
  pub wide : load.A < N
  pub sets : N ≤ 1024
  pub starts : length load.starts ≡ load.A + 1
  pub dependencies : length load.dependencies ≡ load.D
  pub hosts : length load.hosts ≡ load.E
  pub area : N * N + 24 * (load.A + N + load.D + load.E + 1) ≤ size

-- what the row 4 leaves
pub record Starts (load : Load) : Type 0 where
  pub first : at load.starts 0 ≡ 0
  pub step : (i : ℕ) → i < load.A → at load.starts i ≤ at load.starts (suc i)
  pub last : at load.starts load.A ≡ load.D

-- what the rows 4 to 6 leave
pub record InOrder (load : Load) : Type 0 where
  pub starts : Starts load
  pub owner_atom : (k : ℕ) → k < load.D → owner load k < load.A
  pub owner_from : (k : ℕ) → k < load.D → at load.starts (owner load k) ≤ k
  pub owner_upto : (k : ℕ) → k < load.D → k < at load.starts (suc (owner load k))
  pub dependency_atom : (k : ℕ) → k < load.D → at load.dependencies k < load.A
  pub dependency_other : (k : ℕ) → k < load.D → at load.dependencies k ≡ owner load k → ⊥
  pub host_atom : (e : ℕ) → e < load.E → (at load.hosts e ≡ none → ⊥) → at load.hosts e < load.A

pub row4_starts : (load : Load) → row4 load ≡ false → Starts load
unfolding row4
row4_starts load h =
    let rest = or_false_right (not (eqb (at load.starts 0) 0)) _ h in
    record {
      first = eqb-true _ _ (not-false _ (or_false_left (not (eqb (at load.starts 0) 0)) _ h));
      step = λ i l. ltb-false _ _ (some_none falling load.A (or_false_left (some_below falling load.A) _ rest) i l);
      last = eqb-true _ _ (not-false _ (or_false_right (some_below falling load.A) _ rest));
    }
  where
    falling : ℕ → Bool
    falling i = ltb (at load.starts (suc i)) (at load.starts i)

module _ {load : Load} (s : Starts load) where
  pub starts_up : (j i : ℕ) → i ≤ j → j ≤ load.A → at load.starts i ≤ at load.starts j
  starts_up zero i a b = let e : i ≡ 0 = omega arith in rw e (omega arith)
  starts_up (suc j) i a b = go (ℕ_discrete i (suc j)) (starts_up j i)
    where
      go : Dec (i ≡ suc j) → (i ≤ j → j ≤ load.A → at load.starts i ≤ at load.starts j) → at load.starts i ≤ at load.starts (suc j)
      go (yes e) f = rw e (omega arith)
      go (no d) f = omega (arith, f (omega arith) (omega arith), s.step j (omega arith))

  ends : ℕ → ℕ → Bool
  ends k i = leb (at load.starts (suc i)) k

  ends_falls : (k i : ℕ) → i < load.A → (ends k i ≡ true) ↔ (i < owner load k)
  unfolding owner ends
  ends_falls k i l =
      falls (ends k) load.A
      (λ i j a b h. le-leb (at load.starts (suc i)) k (omega (arith, leb-true (at load.starts (suc j)) k h, starts_up (suc j) (suc i) (omega arith) (omega arith)))) i l

  owned : (k : ℕ) → k < load.D → (owner load k < load.A) × (at load.starts (owner load k) ≤ k) × (k < at load.starts (suc (owner load k)))
  unfolding ends
  owned k l = (small, from (owner load k) refl, upto)
    where
      last : (m : ℕ) → load.A ≡ suc m → Dec (m < owner load k) → owner load k < load.A
      last m e (yes h) = absurd (omega (arith, leb-true (at load.starts (suc m)) k ((ends_falls k m (omega arith)).1 h), ap (at load.starts) e, s.last))
      last m e (no h) = omega arith

      small_at : (n : ℕ) → load.A ≡ n → owner load k < load.A
      small_at zero e = absurd (omega (arith, ap (at load.starts) e, s.first, s.last))
      small_at (suc m) e = last m e (dec_lt m (owner load k))

      small : owner load k < load.A
      small = small_at load.A refl

      from : (c : ℕ) → owner load k ≡ c → at load.starts c ≤ k
      from zero e = omega (arith, s.first)
      from (suc c) e = leb-true _ _ ((ends_falls k c (omega (arith, small))).1 (omega arith))

      upto : k < at load.starts (suc (owner load k))
      upto = leb-false _ _ (fails _ (λ h. omega (arith, (ends_falls k (owner load k) small).0 h)))

  -- the owner of an entry is the one atom between whose starts it lies
  pub owner_is : (k i : ℕ) → i < load.A → at load.starts i ≤ k → k < at load.starts (suc i) → owner load k ≡ i
  unfolding ends
  owner_is k i l a b = go i refl
    where
      low : owner load k ≤ i
      low = pick (dec_lt i (owner load k))
        where
          pick : Dec (i < owner load k) → owner load k ≤ i
          pick (yes h) = absurd (omega (arith, leb-true (at load.starts (suc i)) k ((ends_falls k i l).1 h)))
          pick (no h) = omega arith

      go : (j : ℕ) → i ≡ j → owner load k ≡ i
      go zero e = omega (arith, low)
      go (suc j) e = omega (arith, low, (ends_falls k j (omega arith)).0 (le-leb (at load.starts (suc j)) k (rw e at a)))

pub in_order : (load : Load) → row4 load ≡ false → row5 load ≡ false → row6 load ≡ false → InOrder load
unfolding row5 row6
in_order load r4 r5 r6 =
    record {
      starts = row4_starts load r4;
      owner_atom = λ k l. (owned (row4_starts load r4) k l).0;
      owner_from = λ k l. (owned (row4_starts load r4) k l).1;
      owner_upto = λ k l. (owned (row4_starts load r4) k l).2;
      dependency_atom = λ k l. leb-false _ _ (or_false_left (leb load.A (at load.dependencies k)) _ (some_none _ load.D r5 k l));
      dependency_other = λ k l. eqb-false _ _ (or_false_right (leb load.A (at load.dependencies k)) _ (some_none _ load.D r5 k l));
      host_atom = λ e l d. leb-false _ _ (fails _ (λ h. true≢false (sym (and_both (not (eqb (at load.hosts e) none)) _ (ap not (ne_eqb _ _ d)) h) ∙ some_none _ load.E r6 e l)));
    }

pub sized : (load : Load) (N size : ℕ) → row1 load N ≡ false → row2 load ≡ false → row3 load N size ≡ false → Sized load N size
sized load N size r1 r2 r3 =
    let b = or_false_right (ltb 512 load.A) _ r1 in
    let c = or_false_right (ltb 8192 load.D) _ b in
    let d = or_false_right (ltb 256 load.E) _ c in
    let x = not-false _ r2 in
    let y = and_right (eqb (length load.starts) (load.A + 1)) _ x in
    record {
      atoms = ltb-false _ _ (or_false_left (ltb 512 load.A) _ r1);
      entries = ltb-false _ _ (or_false_left (ltb 8192 load.D) _ b);
      bits = ltb-false _ _ (or_false_left (ltb 256 load.E) _ c);
      wide = leb-false _ _ (or_false_left (leb N load.A) _ d);
      sets = ltb-false _ _ (or_false_right (leb N load.A) _ d);
      starts = eqb-true _ _ (and_left (eqb (length load.starts) (load.A + 1)) _ x);
      dependencies = eqb-true _ _ (and_left (eqb (length load.dependencies) load.D) _ y);
      hosts = eqb-true _ _ (and_right (eqb (length load.dependencies) load.D) _ y);
      area = ltb-false _ _ r3;
    }

-- what no refusal among the rows 1 to 6 leaves
pub record Loadable (load : Load) (N : ℕ) (lists : Bool) (size : ℕ) : Type 0 where
  pub sizes : Sized load N size
  pub lengths : lists ≡ true
  pub order : InOrder load

-- the same with the rows 7 and 8
pub record Loadable-sets (load : Load) (N : ℕ) (sets : List ℕ) (size : ℕ) : Type 0 where
  pub loadable : Loadable load N (sets_fit load sets) size
  pub seven : row7 load sets ≡ false
  pub eight : row8 load sets ≡ false

module _ (load : Load) (fixed : List ℕ) (N : ℕ) (sets : List ℕ) (size : ℕ) where
  abbrev pub lists : Bool
  lists = marks_fit load fixed && sets_fit load sets

  -- a loading is refused exactly where a row fits
  pub loading_unrefused : is_refused (loading load fixed N sets size) ≡ false → loading_row load fixed N sets size ≡ 0
  unfolding loading
  loading_unrefused h = go (eqb (loading_row load fixed N sets size) 0) refl h
    where
      c : Bool
      c = cyclic (edge load (entry_sets load sets)) (entry_sets load sets)

      go : (t : Bool) → eqb (loading_row load fixed N sets size) 0 ≡ t → is_refused (cond t (cond c answer.cyclic acyclic) (refused (loading_row load fixed N sets size))) ≡ false
          → loading_row load fixed N sets size ≡ 0
      go true e f = eqb-true _ _ e
      go false e f = absurd (true≢false f)

-- what the rows 7 and 8 leave, number by number
module _ (load : Load) (sets : List ℕ) where
  pub row7_small : row7 load sets ≡ false → (i : ℕ) → i < load.A → lent_set load sets i < 2 ^ load.E
  unfolding row7
  row7_small h i l = leb-false _ _ (some_none (λ i. leb (2 ^ load.E) (lent_set load sets i)) load.A h i l)

  pub row8_apart : row8 load sets ≡ false → (i j : ℕ) → j < i → i < load.A → lent_set load sets j ≡ lent_set load sets i → ⊥
  unfolding row8
  row8_apart h i j a b =
      eqb-false _ _ (some_none (λ j. eqb (lent_set load sets j) (lent_set load sets i)) i (some_none (λ i. some_below (λ j. eqb (lent_set load sets j) (lent_set load sets i)) i) load.A h i b) j a)

  pub entry_sets-length : length (entry_sets load sets) ≡ load.A
  unfolding entry_sets
  entry_sets-length = tab-length (lent_set load sets) load.A

  pub entry_sets-at : (i : ℕ) → i < load.A → at (entry_sets load sets) i ≡ lent_set load sets i
  unfolding entry_sets
  entry_sets-at i l = tab-at (lent_set load sets) load.A i l
