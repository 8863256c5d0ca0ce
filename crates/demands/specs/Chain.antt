-- The load that the program `chain` writes is acyclic, its move is accepted and reaches n - 1 other chunks, for every n. Assumes nothing.
use Prim.Native.Nat.{ℕ, zero, suc, ◌+◌, ◌-◌, ◌*◌, ◌^◌, ◌≤◌, ◌<◌}
use native.Mathlib.Omega.{arith}
use Rattle.std.proofs.Math.Decide.{ℕ_discrete}
use Rattle.std.specs.Prelude.{◌≡◌, not, cond, List, [], ◌∷◌, eqb, length, take, drop, set, replicate}
use Rattle.std.proofs.Math.Path.{refl, sym}
use Rattle.std.proofs.Common.{ap, subst, ◌∙◌, length-set, get_or-set_same, get_or-set_other}
use Rattle.std.proofs.Math.Bool.{true, false}
use Rattle.std.proofs.lemmas.List.{get_or-replicate, length-replicate}
use borrow.Author.Tests.{lt-leb, eq-eqb, ne_eqb, le-ltb, lt-ltb}
use Rattle.graphs.specs.Bools.{or_false, and_both}
use Rattle.graphs.specs.Lists.{has, has-place, none_below}
use Rattle.graphs.specs.Tab.{tab-length, is_tab}
use Rattle.graphs.specs.Walk.{Walk, one, more, via, cyclic}
use Rattle.graphs.specs.Walks.{join, via_walk, acyclic_walk}
use Rattle.entry_set.specs.Joined.{joined}
use Rattle.entry_set.specs.Sets.{value}
use Rattle.move_ledger.specs.Graph.{none, at, owner, edge}
use Rattle.move_ledger.specs.GraphLaws.{Why, by_entry, by_facade, entry-lies, lies-entry, lies-set, lies_in}
use Rattle.move_ledger.proofs.GraphLaws.{edge_why, why_edge, edge-source}
use Rattle.move_ledger.specs.Answer.{acyclic, is_accepted}
use Rattle.move_ledger.specs.Ledger.{loaded, decide, move}
use Rattle.move_ledger.specs.Loading.{row1, row2, row3, row4, row5, row6, first_row, lent_set, entry_sets, row7, row8, loading_row, loading}
use Rattle.chain_commands.specs.Chain.{chain, sets, set_at, next-at, owner_at, starts}

module _ (n : ℕ) where
  -- an edge goes from an atom's set to the next one's
  edge-next : (p : List ℕ) (X Y : ℕ) → edge (chain n) p X Y ≡ true → (k : ℕ) × (k < n - 1) × (at p k ≡ X) × (at p (suc k) ≡ Y)
  edge-next p X Y h = go (edge_why (chain n) p X Y h).1
    where
      go : Why (chain n) p X Y → (k : ℕ) × (k < n - 1) × (at p k ≡ X) × (at p (suc k) ≡ Y)
      go (by_entry k l q) =
          let r = entry-lies (chain n) p X Y k q in
          (k, l, ap (at p) (sym (owner_at n k l)) ∙ lies-set (chain n) p X _ r.0, ap (at p) (sym (next-at n k l)) ∙ lies-set (chain n) p Y _ r.1)
      go (by_facade e l f) = absurd (f.hosted (get_or-replicate {A = ℕ} 16 e none 0 l))

  next_edge : (p : List ℕ) (k : ℕ) → k < n - 1 → (at p k ≡ at p (suc k) → ⊥) → edge (chain n) p (at p k) (at p (suc k)) ≡ true
  next_edge p k h d =
      why_edge (chain n) p (at p k) (at p (suc k)) d
      (by_entry k h (lies-entry (chain n) p _ _ k
      (lies_in (chain n) p (at p k) _ (omega (arith, owner_at n k h)) (ap (at p) (owner_at n k h)))
      (lies_in (chain n) p (at p (suc k)) _ (omega (arith, next-at n k h)) (ap (at p) (next-at n k h)))))

  -- sets that a measure tells apart, rising from atom to atom: no cycle, and the first atom's chunk reaches all others
  module _ (p : List ℕ) (long : length p ≡ n) (g : ℕ → ℕ) (up : (k : ℕ) → k < n - 1 → g (at p k) < g (at p (suc k))) where
    rises : {X Y : ℕ} → Walk (edge (chain n) p) X Y → g X < g Y
    rises (one {x} {y} h) = let r = edge-next p x y h in omega (arith, up r.0 r.1, ap g r.2, ap g r.3)
    rises (more {x} {y} h w) = let r = edge-next p x y h in omega (arith, up r.0 r.1, ap g r.2, ap g r.3, rises w)

    from : (X Y : ℕ) → edge (chain n) p X Y ≡ true → has X p ≡ true
    from = edge-source (chain n) p long

    no_cycle : cyclic (edge (chain n) p) p ≡ false
    no_cycle = (acyclic_walk (edge (chain n) p) p from).1 (λ X w. omega (arith, rises w))

    step : (k : ℕ) → k < n - 1 → edge (chain n) p (at p k) (at p (suc k)) ≡ true
    step k h = next_edge p k h (λ e. omega (arith, up k h, ap g e))

    walk : (k : ℕ) → k < n - 1 → Walk (edge (chain n) p) (at p 0) (at p (suc k))
    walk zero h = one (step 0 h)
    walk (suc k) h = join (walk k (omega arith)) (one (step (suc k) h))

    reaches : (Z : ℕ) → has Z p ≡ true → (Z ≡ at p 0 → ⊥) → via (edge (chain n) p) p (at p 0) Z ≡ true
    reaches Z h d = let r = has-place Z p h in go r.0 r.1 r.2
      where
        go : (i : ℕ) → i < length p → at p i ≡ Z → via (edge (chain n) p) p (at p 0) Z ≡ true
        go zero b e = absurd (d (sym e))
        go (suc i) b e = (via_walk (edge (chain n) p) p from (at p 0) Z).1 (subst (Walk (edge (chain n) p) (at p 0)) e (walk i (omega arith)))

    up_to : (i j : ℕ) → i < j → j < n → g (at p i) < g (at p j)
    up_to i zero a b = absurd (omega arith)
    up_to i (suc j) a b = go (ℕ_discrete i j) (λ c. up_to i j c (omega arith))
      where
        go : Dec (i ≡ j) → (i < j → g (at p i) < g (at p j)) → g (at p i) < g (at p (suc j))
        go (yes e) f = rw e (up j (omega arith))
        go (no d) f = omega (arith, f (omega arith), up j (omega arith))

    apart : (i j : ℕ) → i < j → j < n → at p i ≡ at p j → ⊥
    apart i j a b e = omega (arith, up_to i j a b, ap g e)

  -- as loaded: set i + 1 for atom i
  loaded_acyclic : cyclic (edge (chain n) (sets n)) (sets n) ≡ false
  loaded_acyclic = no_cycle (sets n) (tab-length suc n) (λ X. X) (λ k h. omega (arith, set_at n k (omega arith), set_at n (suc k) (omega arith)))

-- atom 0 in set n + 1
abbrev pub moved : ℕ → List ℕ
moved n = set (sets n) 0 (n + 1)

module _ (n : ℕ) (some : 0 < n) where
  pub moved_long : length (moved n) ≡ n
  moved_long = length-set (sets n) 0 (n + 1) ∙ tab-length suc n

  pub moved-first : at (moved n) 0 ≡ n + 1
  moved-first = get_or-set_same (sets n) 0 (n + 1) 0 (omega (arith, tab-length suc n))

  moved_other : (i : ℕ) → suc i < n → at (moved n) (suc i) ≡ suc (suc i)
  moved_other i h = get_or-set_other (sets n) 0 (suc i) (n + 1) 0 (omega arith) ∙ set_at n (suc i) h

  -- the first atom's set comes first
  first : ℕ → ℕ
  first X = cond (eqb X (n + 1)) 0 X

  first-new : first (n + 1) ≡ 0
  unfolding first
  first-new = rw (eq-eqb (n + 1) (n + 1) refl) refl

  first-old : (X : ℕ) → X ≤ n → first X ≡ X
  unfolding first
  first-old X h = rw (ne_eqb X (n + 1) (λ e. omega arith)) refl

  moved_up : (k : ℕ) → k < n - 1 → first (at (moved n) k) < first (at (moved n) (suc k))
  moved_up zero h = omega (arith, ap first moved-first, first-new, ap first (moved_other 0 (omega arith)), first-old 2 (omega arith))
  moved_up (suc k) h =
      omega (
        arith,
        ap first (moved_other k (omega arith)),
        first-old (suc (suc k)) (omega arith),
        ap first (moved_other (suc k) (omega arith)),
        first-old (suc (suc (suc k))) (omega arith),
      )

  moved_acyclic : cyclic (edge (chain n) (moved n)) (moved n) ≡ false
  moved_acyclic = no_cycle n (moved n) moved_long first moved_up

  -- the move reaches n - 1 chunks: from the moved atom's chunk a walk leads to each other one,
  pub moved_reaches : (Z : ℕ) → has Z (moved n) ≡ true → (Z ≡ n + 1 → ⊥) → via (edge (chain n) (moved n)) (moved n) (n + 1) Z ≡ true
  moved_reaches =
      subst (λ X. (Z : ℕ) → has Z (moved n) ≡ true → (Z ≡ X → ⊥) → via (edge (chain n) (moved n)) (moved n) X Z ≡ true) moved-first
      (reaches n (moved n) moved_long first moved_up)

  -- and no two atoms are in one chunk, so that these are n - 1
  pub moved_apart : (i j : ℕ) → i < j → j < n → at (moved n) i ≡ at (moved n) j → ⊥
  moved_apart = apart n (moved n) moved_long first moved_up

-- the lent sets of one number each are the entry sets
one_lent : (l : List ℕ) (i : ℕ) → i < length l → value (take 1 (drop i l)) ≡ at l i
unfolding joined
one_lent [] i h = absurd (omega arith)
one_lent (x ∷ l) zero h = omega arith
one_lent (x ∷ l) (suc i) h = one_lent l i (omega arith)

module _ (n : ℕ) where
  lent_at : (i : ℕ) → i < n → lent_set (chain n) (sets n) i ≡ suc i
  lent_at i h =
      let e : i * 1 ≡ i = omega arith in
      ap (λ k. value (take 1 (drop k (sets n)))) e ∙ one_lent (sets n) i (omega (arith, tab-length suc n)) ∙ set_at n i h

  pub entry_sets_are : entry_sets (chain n) (sets n) ≡ sets n
  unfolding entry_sets
  entry_sets_are = sym (is_tab (sets n) n _ (tab-length suc n) (λ k h. set_at n k h ∙ sym (lent_at k h)))

-- no atom is fixed: `moves` sets no mark
abbrev pub unmarked : ℕ → List ℕ
unmarked n = replicate n 0

-- E is 16 and N is n + 1; `size` is the length of a work area that is long enough
module _ (n : ℕ) (some : 0 < n) (few : n ≤ 512) (size : ℕ) (enough : row3 (chain n) (n + 1) size ≡ false) where
  row-none : loading_row (chain n) (unmarked n) (n + 1) (sets n) size ≡ 0
  unfolding loading_row first_row row4 row5 row6 row7 row8
  row-none = rw (r1, r2, enough, r4, r5, r6, eq-eqb (length (unmarked n)) n (length-replicate {A = ℕ} n 0), eq-eqb (length (sets n)) (n * 1) (omega (arith, tab-length suc n)), r7, r8) refl
    where
      r1 : row1 (chain n) (n + 1) ≡ false
      r1 =
          or_false _ _ (le-ltb 512 n few) (or_false _ _ (le-ltb 8192 (n - 1) (omega arith)) (or_false _ _ (le-ltb 256 16 (omega arith))
          (or_false _ _ (lt-leb (n + 1) n (omega arith)) (le-ltb 1024 (n + 1) (omega arith)))))

      r2 : row2 (chain n) ≡ false
      r2 =
          ap not (and_both _ _ (eq-eqb _ _ (tab-length _ (n + 1)))
          (and_both _ _ (eq-eqb _ _ (tab-length suc (n - 1))) (eq-eqb _ _ (length-replicate {A = ℕ} 16 none))))

      r4 : row4 (chain n) ≡ false
      r4 =
          or_false _ _ (ap not (eq-eqb _ _ (starts n).first))
          (or_false _ _ (none_below _ n (λ i h. le-ltb _ _ ((starts n).step i h))) (ap not (eq-eqb _ _ (starts n).last)))

      r5 : row5 (chain n) ≡ false
      r5 =
          none_below _ (n - 1) (λ k h. or_false _ _ (lt-leb n _ (omega (arith, next-at n k h)))
          (ne_eqb (at (chain n).dependencies k) (owner (chain n) k) (λ e. omega (arith, next-at n k h, owner_at n k h))))

      r6 : row6 (chain n) ≡ false
      r6 = none_below _ 16 (λ e h. rw (get_or-replicate {A = ℕ} 16 e none 0 h) refl)

      r7 : row7 (chain n) (sets n) ≡ false
      r7 = none_below _ n (λ i h. lt-leb (2 ^ 16) (lent_set (chain n) (sets n) i) (omega (arith, lent_at n i h)))

      r8 : row8 (chain n) (sets n) ≡ false
      r8 =
          none_below _ n (λ i h. none_below _ i (λ j b. ne_eqb (lent_set (chain n) (sets n) j) (lent_set (chain n) (sets n) i)
          (λ e. omega (arith, lent_at n i h, lent_at n j (omega arith)))))

  -- the load is acyclic: no row refuses it
  pub chain-loads : loading (chain n) (unmarked n) (n + 1) (sets n) size ≡ acyclic
  unfolding loading
  chain-loads = rw (row-none, entry_sets_are n, loaded_acyclic n) refl

  pub value_one : value ((n + 1) ∷ []) ≡ n + 1
  unfolding joined
  value_one = omega arith

  -- and the move of atom 0 to set n + 1 is accepted
  pub chain-moves : is_accepted (move (chain n) (unmarked n) (n + 1) (loaded (entry_sets (chain n) (sets n))) 0 ((n + 1) ∷ [])).answer ≡ true
  unfolding move decide
  chain-moves =
      rw (
        entry_sets_are n,
        value_one,
        lt-leb n 0 some,
        eq-eqb (at (unmarked n) 0) 0 (get_or-replicate {A = ℕ} n 0 0 0 some),
        lt-ltb (n + 1) (2 ^ 16) (omega arith),
        ne_eqb (n + 1) (at (sets n) 0) (λ e. omega (arith, set_at n 0 some)),
        loaded_acyclic n,
        moved_acyclic n some,
      ) refl
