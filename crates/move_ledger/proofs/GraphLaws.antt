-- Theorems on the definitions of specs/GraphLaws: they stand here, so that the crate can be read with a definition changed. Assumes nothing.
use Prim.Native.Nat.{ℕ, ◌+◌, ◌≤◌, ◌<◌}
use Rattle.std.proofs.Common.{arith, sym, ap, ◌∙◌, ⊎_elim, true≢false, length-set, get_or-set_same}
use Rattle.std.specs.Prelude.{◌≡◌, Bool, true, false, cond, List, ltb, length, set}
use Rattle.std.proofs.Math.Path.{refl}
use Rattle.std.proofs.Math.Dec.{eqb}
use borrow.Author.Tests.{ltb-true, ltb-false, lt-ltb, eqb-false, ne_eqb}
use Rattle.graphs.specs.Bools.{alike}
use Rattle.graphs.specs.Count.{count, count_pos, count-found}
use Rattle.graphs.specs.Lists.{has, has-at}
use Rattle.graphs.specs.Walk.{Walk, via, cyclic, only}
use Rattle.graphs.specs.Walks.{join, closed, via_walk, cyclic_walk, acyclic_walk, only_walk}
use Rattle.move_ledger.specs.Graph.{Load, at, lies, entry, facade, mult, edge}
use Rattle.move_ledger.specs.GraphLaws.{lies_atom, lies-set, lies_in, occupied-by, occupy, entry-lies, lies-entry, facade_faces, faces_facade, Why, by_entry, by_facade, Apart, apart, apart_back}

module _ (load : Load) (p : List ℕ) (X Y : ℕ) where
  pub edge_why : edge load p X Y ≡ true → (X ≡ Y → ⊥) × Why load p X Y
  unfolding edge mult
  edge_why h = go (eqb X Y) refl (ltb-true 0 _ h)
    where
      n : ℕ
      n = count (entry load p X Y) load.D

      m : ℕ
      m = count (facade load p X Y) load.E

      why : (t : Bool) → ltb 0 n ≡ t → 1 ≤ n + m → Why load p X Y
      why true q l = let r = count-found (entry load p X Y) load.D (ltb-true 0 n q) in by_entry r.0 r.1 r.2
      why false q l =
          let r = count-found (facade load p X Y) load.E (omega (arith, ltb-false 0 n q)) in
          by_facade r.0 r.1 (facade_faces load p X Y r.0 r.2)

      go : (t : Bool) → eqb X Y ≡ t → 0 < cond t 0 (n + m) → (X ≡ Y → ⊥) × Why load p X Y
      go true q l = absurd (omega arith)
      go false q l = (eqb-false X Y q, why (ltb 0 n) refl l)

  pub why_edge : (X ≡ Y → ⊥) → Why load p X Y → edge load p X Y ≡ true
  unfolding edge mult
  why_edge d w = rw (ne_eqb X Y d) (lt-ltb 0 _ (go w))
    where
      go : Why load p X Y → 0 < count (entry load p X Y) load.D + count (facade load p X Y) load.E
      go (by_entry k l h) = omega (arith, count_pos (entry load p X Y) load.D k l h)
      go (by_facade e l h) = omega (arith, count_pos (facade load p X Y) load.E e l (faces_facade h))

-- an edge goes from an occupied set to another: so the placement holds the source of every edge, which is what the laws of `via`, `cyclic`
-- and `only` in graphs ask
module _ (load : Load) (p : List ℕ) (n : length p ≡ load.A) where
  held : (X i : ℕ) → i < load.A → at p i ≡ X → has X p ≡ true
  held X i l q = rw (← q) (has-at p i (omega arith))

  pub edge-source : (X Y : ℕ) → edge load p X Y ≡ true → has X p ≡ true
  edge-source X Y h = go (edge_why load p X Y h).1
    where
      go : Why load p X Y → has X p ≡ true
      go (by_entry k l q) = let r = (entry-lies load p X Y k q).0 in held X _ (lies_atom load p X _ r) (lies-set load p X _ r)
      go (by_facade e l q) = let r = occupied-by load p X q.here in held X r.0 r.1 r.2

  pub edge-target : (X Y : ℕ) → edge load p X Y ≡ true → has Y p ≡ true
  edge-target X Y h = go (edge_why load p X Y h).1
    where
      go : Why load p X Y → has Y p ≡ true
      go (by_entry k l q) = let r = (entry-lies load p X Y k q).1 in held Y _ (lies_atom load p Y _ r) (lies-set load p Y _ r)
      go (by_facade e l q) = held Y _ (lies_atom load p Y _ q.there) (lies-set load p Y _ q.there)

-- an edge between sets other than a's set in p is one in q too
module _ (load : Load) {p q : List ℕ} {a : ℕ} (s : Apart p q a) where
  stays : (X i : ℕ) → (X ≡ at p a → ⊥) → at p i ≡ X → at q i ≡ X
  stays X i d h = sym (s.else i (λ z. d (sym h ∙ ap (at p) z))) ∙ h

  lies-kept : (X i : ℕ) → (X ≡ at p a → ⊥) → lies load p i X ≡ true → lies load q i X ≡ true
  lies-kept X i d h = lies_in load q X i (lies_atom load p X i h) (stays X i d (lies-set load p X i h))

  pub edge_kept : (X Y : ℕ) → (X ≡ at p a → ⊥) → (Y ≡ at p a → ⊥) → edge load p X Y ≡ true → edge load q X Y ≡ true
  edge_kept X Y c d h = let r = edge_why load p X Y h in why_edge load q X Y r.0 (go r.1)
    where
      go : Why load p X Y → Why load q X Y
      go (by_entry k l t) = let r = entry-lies load p X Y k t in by_entry k l (lies-entry load q X Y k (lies-kept X _ c r.0) (lies-kept Y _ d r.1))
      go (by_facade e l t) =
          let r = occupied-by load p X t.here in
          by_facade e l
          (record {
            bit = t.bit;
            here = occupy load q X r.0 r.1 (stays X r.0 c r.2);
            hosted = t.hosted;
            there = lies-kept Y _ d t.there;
          })

-- what a move of atom a to T does to cycles
module _ (load : Load) (p : List ℕ) (a T : ℕ) (n : length p ≡ load.A) where
  moved_length : length (set p a T) ≡ load.A
  moved_length = rw length-set n

  -- step 1 is right: edges between sets other than the atom's old one stay, so a cycle without that set stays
  pub outside-stays : cyclic (edge load p) p ≡ true → only (edge load p) p (at p a) ≡ false → cyclic (edge load (set p a T)) (set p a T) ≡ true
  outside-stays h o = go (cyclic (edge load (set p a T)) (set p a T)) refl
    where
      f : ℕ
      f = at p a

      go : (t : Bool) → cyclic (edge load (set p a T)) (set p a T) ≡ t → t ≡ true
      go true q = refl
      go false q = absurd (true≢false (sym ((only_walk (edge load p) p (edge-source load p n) f).1 (join c.1 c.0, λ Y w. let r = meets Y w in (r.1, r.0))) ∙ o))
        where
          meets : (Y : ℕ) → Walk (edge load p) Y Y → Walk (edge load p) Y f × Walk (edge load p) f Y
          meets Y w =
              ⊎_elim (λ u. absurd ((acyclic_walk (edge load (set p a T)) (set p a T) (edge-source load (set p a T) moved_length)).0 q Y u)) (λ v. v)
              (closed f (edge_kept load (apart_back p a T)) Y w)

          c : Walk (edge load p) ((cyclic_walk (edge load p) p (edge-source load p n)).0 h).0 f × Walk (edge load p) f ((cyclic_walk (edge load p) p (edge-source load p n)).0 h).0
          c = meets _ ((cyclic_walk (edge load p) p (edge-source load p n)).0 h).1

  -- from an acyclic graph it is enough to walk from the target: edges between sets other than it were there before
  pub target_decides : a < load.A → cyclic (edge load p) p ≡ false → cyclic (edge load (set p a T)) (set p a T) ≡ via (edge load (set p a T)) (set p a T) T T
  target_decides b h = alike _ _ there (λ r. (cyclic_walk (edge load q) q from).1 (T, (via_walk (edge load q) q from T T).0 r))
    where
      q : List ℕ
      q = set p a T

      from : (X Y : ℕ) → edge load q X Y ≡ true → has X q ≡ true
      from = edge-source load q moved_length

      here : at q a ≡ T
      here = get_or-set_same p a T 0 (omega arith)

      keep : (X Y : ℕ) → (X ≡ T → ⊥) → (Y ≡ T → ⊥) → edge load q X Y ≡ true → edge load p X Y ≡ true
      keep X Y c d = edge_kept load (apart p a T) X Y (λ z. c (z ∙ here)) (λ z. d (z ∙ here))

      there : cyclic (edge load q) q ≡ true → via (edge load q) q T T ≡ true
      there g =
          let w = (cyclic_walk (edge load q) q from).0 g in
          (via_walk (edge load q) q from T T).1
          (⊎_elim (λ u. absurd ((acyclic_walk (edge load p) p (edge-source load p n)).0 h w.0 u)) (λ v. join v.1 v.0) (closed T keep w.0 w.1))
