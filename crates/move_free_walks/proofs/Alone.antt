-- Theorems on the definitions of specs/Alone: they stand here, so that the crate can be read with a definition changed. Assumes nothing.
use Rattle.std.specs.Prelude.{ℕ, ◌<◌, ◌≡◌, true, List}
use Rattle.std.proofs.Math.Decide.{ℕ_discrete}
use Rattle.std.proofs.Common.{sym, ap, subst, ◌∙◌}
use Rattle.graphs.specs.Bools.{alike}
use Rattle.move_ledger.specs.Graph.{Load, at, owner, lies, occupied, edge}
use Rattle.move_ledger.specs.GraphLaws.{lies_atom, lies-set, lies_in, occupied-by, occupy, entry-lies, lies-entry, Faces, Why, by_entry, by_facade}
use Rattle.move_ledger.proofs.GraphLaws.{edge_why, why_edge, edge_kept}
use Rattle.move_free_walks.specs.Joins.{cut, cut_edge, edge-cut, joined, old, leaves, enters, joined_why, why_joined}
use Rattle.move_free_walks.specs.Joins as joins
use Rattle.move_free_walks.specs.Alone.{rest, out, into, Alone, Back}

module _ (load : Load) {q r : List ℕ} {a Z X : ℕ} (v : Alone load q a Z) (b : Back q r a X) where
  -- an atom in a set other than Z stays there
  stays : (x i : ℕ) → (x ≡ Z → ⊥) → lies load q i x ≡ true → lies load r i x ≡ true
  stays x i n h = lies_in load r x i (lies_atom load q x i h) (sym (b.apart.else i (λ z. n (sym (lies-set load q x i h) ∙ ap (at q) z ∙ v.here))) ∙ lies-set load q x i h)

  -- the atom in Z goes to X
  goes : (i : ℕ) → lies load q i Z ≡ true → lies load r i X ≡ true
  goes i h = lies_in load r X i (lies_atom load q Z i h) (ap (at r) (v.alone i (lies_atom load q Z i h) (lies-set load q Z i h)) ∙ b.there)

  -- and back
  stood : (x i : ℕ) → (i ≡ a → ⊥) → lies load r i x ≡ true → lies load q i x ≡ true
  stood x i n h = lies_in load q x i (lies_atom load r x i h) (b.apart.else i n ∙ lies-set load r x i h)

  not_there : (x i : ℕ) → (i ≡ a → ⊥) → lies load r i x ≡ true → x ≡ Z → ⊥
  not_there x i n h e = n (v.alone i (lies_atom load r x i h) (lies-set load q x i (stood x i n h) ∙ e))

  came : (x i : ℕ) → i ≡ a → lies load r i x ≡ true → lies load q i Z ≡ true
  came x i e h = lies_in load q Z i (lies_atom load r x i h) (ap (at q) e ∙ v.here)

  is_there : (x i : ℕ) → i ≡ a → lies load r i x ≡ true → x ≡ X
  is_there x i e h = sym (lies-set load r x i h) ∙ ap (at r) e ∙ b.there

  keeps_occupied : (x : ℕ) → (x ≡ Z → ⊥) → occupied load q x ≡ true → occupied load r x ≡ true
  keeps_occupied x n h = let w = occupied-by load q x h in occupy load r x w.0 w.1 (lies-set load r x w.0 (stays x w.0 n (lies_in load q x w.0 w.1 w.2)))

  -- what the joined graph has, the graph of r has
  pub joined-edge : (x y : ℕ) → joined (rest load q Z) (out load q Z) (into load q Z) X x y ≡ true → edge load r x y ≡ true
  joined-edge x y h = go (joined_why (rest load q Z) (out load q Z) (into load q Z) X x y h)
    where
      leave : (x ≡ y → ⊥) → x ≡ X → (Z ≡ y → ⊥) → Why load q Z y → edge load r x y ≡ true
      leave d e n (by_entry k l t) =
          let w = entry-lies load q Z y k t in
          why_edge load r x y d (by_entry k l (lies-entry load r x y k (subst (λ z. lies load r (owner load k) z ≡ true) (sym e) (goes _ w.0)) (stays y _ (λ z. n (sym z)) w.1)))
      leave d e n (by_facade f l t) = absurd (v.no_bit f l t.bit)

      enter : (x ≡ y → ⊥) → y ≡ X → (x ≡ Z → ⊥) → Why load q x Z → edge load r x y ≡ true
      enter d e n (by_entry k l t) =
          let w = entry-lies load q x Z k t in
          why_edge load r x y d (by_entry k l (lies-entry load r x y k (stays x _ n w.0) (subst (λ z. lies load r (at load.dependencies k) z ≡ true) (sym e) (goes _ w.1))))
      enter d e n (by_facade f l t) =
          why_edge load r x y d
          (by_facade f l
          (record {
            bit = t.bit;
            here = keeps_occupied x n t.here;
            hosted = t.hosted;
            there = subst (λ z. lies load r (at load.hosts f) z ≡ true) (sym e) (goes _ t.there);
          }))

      go : joins.Why (rest load q Z) (out load q Z) (into load q Z) X x y → edge load r x y ≡ true
      go (old t) = let w = cut_edge (edge load q) Z x y t in edge_kept load b.apart x y (λ z. w.1 (z ∙ v.here)) (λ z. w.2 (z ∙ v.here)) w.0
      go (leaves e n t) = let w = edge_why load q Z y t in leave (λ z. n (sym z ∙ e)) e w.0 w.1
      go (enters e n t) = let w = edge_why load q x Z t in enter (λ z. n (z ∙ e)) e w.0 w.1

  -- and the other way round, where X has an atom without a
  pub edge-joined : occupied load q X ≡ true → (X ≡ Z → ⊥) → (x y : ℕ) → edge load r x y ≡ true → joined (rest load q Z) (out load q Z) (into load q Z) X x y ≡ true
  edge-joined o nz x y h = let w = edge_why load r x y h in why_joined (rest load q Z) (out load q Z) (into load q Z) X x y (go w.0 w.1)
    where
      J : Type 0
      J = joins.Why (rest load q Z) (out load q Z) (into load q Z) X x y

      -- x is {e}, so it isn't Z, and it has an atom without a
      front : (i : ℕ) → i < load.A → at r i ≡ x → Dec (i ≡ a) → occupied load q x ≡ true
      front i l e (yes z) = subst (λ k. occupied load q k ≡ true) (sym (is_there x i z (lies_in load r x i l e))) o
      front i l e (no n) = occupy load q x i l (b.apart.else i n ∙ e)

      entry-go : (x ≡ y → ⊥) → (k : ℕ) → k < load.D → lies load r (owner load k) x ≡ true → lies load r (at load.dependencies k) y ≡ true
          → Dec (owner load k ≡ a) → Dec (at load.dependencies k ≡ a) → J
      entry-go d k l s t (yes p) (yes g) = absurd (d (is_there x _ p s ∙ sym (is_there y _ g t)))
      entry-go d k l s t (yes p) (no g) =
          leaves (is_there x _ p s) (λ z. d (is_there x _ p s ∙ sym z))
          (why_edge load q Z y (λ z. not_there y _ g t (sym z)) (by_entry k l (lies-entry load q Z y k (came x _ p s) (stood y _ g t))))
      entry-go d k l s t (no p) (yes g) =
          enters (is_there y _ g t) (λ z. d (z ∙ sym (is_there y _ g t)))
          (why_edge load q x Z (not_there x _ p s) (by_entry k l (lies-entry load q x Z k (stood x _ p s) (came y _ g t))))
      entry-go d k l s t (no p) (no g) =
          old (edge-cut (edge load q) Z x y (why_edge load q x y d (by_entry k l (lies-entry load q x y k (stood x _ p s) (stood y _ g t)))) (not_there x _ p s) (not_there y _ g t))

      face-go : (x ≡ y → ⊥) → (e : ℕ) → e < load.E → Faces load r x y e → occupied load q x ≡ true → Dec (at load.hosts e ≡ a) → J
      face-go d e l f c (yes p) =
          enters (is_there y _ p f.there) (λ z. d (z ∙ sym (is_there y _ p f.there)))
          (why_edge load q x Z (λ z. v.no_bit e l (sym z ∙ f.bit)) (by_facade e l (record { bit = f.bit; here = c; hosted = f.hosted; there = came y _ p f.there })))
      face-go d e l f c (no p) =
          old (edge-cut (edge load q) Z x y (why_edge load q x y d (by_facade e l (record { bit = f.bit; here = c; hosted = f.hosted; there = stood y _ p f.there })))
          (λ z. v.no_bit e l (sym z ∙ f.bit)) (not_there y _ p f.there))

      go : (x ≡ y → ⊥) → Why load r x y → J
      go d (by_entry k l t) = let w = entry-lies load r x y k t in entry-go d k l w.0 w.1 (ℕ_discrete (owner load k) a) (ℕ_discrete (at load.dependencies k) a)
      go d (by_facade e l f) =
          let w = occupied-by load r x f.here in
          face-go d e l f (front w.0 w.1 w.2 (ℕ_discrete w.0 a)) (ℕ_discrete (at load.hosts e) a)

  -- the graph of r IS the joined one
  pub edge_is_joined : occupied load q X ≡ true → (X ≡ Z → ⊥) → (x y : ℕ) → edge load r x y ≡ joined (rest load q Z) (out load q Z) (into load q Z) X x y
  edge_is_joined o n x y = alike _ _ (edge-joined o n x y) (joined-edge x y)
