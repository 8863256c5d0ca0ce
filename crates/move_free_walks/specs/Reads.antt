-- The graph without an atom, read off the load: entries and facade edges that have nothing to do with the atom; what the atom depends on; what
-- depends on it or is faced by it. Assumes nothing.
use Rattle.std.specs.Prelude.{ℕ, ◌^◌, ◌<◌, ◌≡◌, ◌↔◌, true, List, length, set}
use Rattle.std.proofs.Common.{sym, ap, subst, ◌∙◌, get_or-set_other}
use Rattle.move_ledger.specs.Graph.{Load, none, at, owner, lies, edge}
use Rattle.move_ledger.specs.GraphLaws.{lies_atom, lies-set, lies_in, occupied-by, occupy, entry-lies, lies-entry, Why, by_entry, by_facade}
use Rattle.move_ledger.proofs.GraphLaws.{edge_why, why_edge}
use Rattle.move_free_walks.specs.Joins.{cut_edge, edge-cut}
use Rattle.move_free_walks.specs.Alone.{Alone}
use Rattle.move_free_walks.specs.Free.{without, outs, ins}

-- an atom other than a in X
pub record Other (load : Load) (p : List ℕ) (a i X : ℕ) : Type 0 where
  pub atom : i < load.A
  pub not_a : i ≡ a → ⊥
  pub here : at p i ≡ X

-- dependency entry k of atom a is on an atom in y
pub record Needs (load : Load) (p : List ℕ) (a y k : ℕ) : Type 0 where
  pub entry : k < load.D
  pub from : owner load k ≡ a
  pub to : Other load p a (at load.dependencies k) y

-- dependency entry k of an atom in x is on a; or entry bit k, hosted by a, has x as its set, and x has an atom other than a
pub data Needed (load : Load) (p : List ℕ) (a x : ℕ) : Type 0 where
  by_atom : (k : ℕ) → k < load.D → Other load p a (owner load k) x → at load.dependencies k ≡ a → Needed load p a x
  by_bit : (e : ℕ) → e < load.E → x ≡ 2 ^ e → at load.hosts e ≡ a → (at load.hosts e ≡ none → ⊥) → (i : ℕ) → Other load p a i x → Needed load p a x

-- an entry between other atoms, or a facade edge to another atom's set from a set with another atom
pub data Between (load : Load) (p : List ℕ) (a x y : ℕ) : Type 0 where
  by_atoms : (k : ℕ) → k < load.D → Other load p a (owner load k) x → Other load p a (at load.dependencies k) y → Between load p a x y
  by_host : (e : ℕ) → e < load.E → x ≡ 2 ^ e → Other load p a (at load.hosts e) y → (at load.hosts e ≡ none → ⊥) → (i : ℕ) → Other load p a i x → Between load p a x y

module _ (load : Load) (p : List ℕ) (a Z : ℕ) (n : length p ≡ load.A) (v : Alone load (set p a Z) a Z) where
  -- other atoms are where they were
  other : (x i : ℕ) → (x ≡ Z → ⊥) → lies load (set p a Z) i x ≡ true → Other load p a i x
  other x i d h =
      let m : i ≡ a → ⊥ = λ e. d (sym (lies-set load (set p a Z) x i h) ∙ ap (at (set p a Z)) e ∙ v.here) in
      record { atom = lies_atom load (set p a Z) x i h; not_a = m; here = sym (get_or-set_other p a i Z 0 m) ∙ lies-set load (set p a Z) x i h }

  there : (x i : ℕ) → Other load p a i x → lies load (set p a Z) i x ≡ true
  there x i o = lies_in load (set p a Z) x i o.atom (get_or-set_other p a i Z 0 o.not_a ∙ o.here)

  not_z : (x i : ℕ) → Other load p a i x → x ≡ Z → ⊥
  not_z x i o e = o.not_a (v.alone i o.atom (lies-set load (set p a Z) x i (there x i o) ∙ e))

  -- atom a is in Z
  is_a : (i : ℕ) → lies load (set p a Z) i Z ≡ true → i ≡ a
  is_a i h = v.alone i (lies_atom load (set p a Z) Z i h) (lies-set load (set p a Z) Z i h)

  a_lies : (i : ℕ) → i ≡ a → lies load (set p a Z) i Z ≡ true
  a_lies i e = lies_in load (set p a Z) Z i (subst (λ k. k < load.A) (sym e) v.atom) (ap (at (set p a Z)) e ∙ v.here)

  pub outs-read : (y : ℕ) → (outs load p a Z y ≡ true) ↔ ((k : ℕ) × Needs load p a y k)
  outs-read y = (λ h. let r = edge_why load (set p a Z) Z y h in to r.0 r.1, λ w. back w.0 w.1)
    where
      to : (Z ≡ y → ⊥) → Why load (set p a Z) Z y → (k : ℕ) × Needs load p a y k
      to d (by_entry k l t) =
          let r = entry-lies load (set p a Z) Z y k t in
          (k, record { entry = l; from = is_a _ r.0; to = other y _ (λ e. d (sym e)) r.1 })
      to d (by_facade e l t) = absurd (v.no_bit e l t.bit)

      back : (k : ℕ) → Needs load p a y k → edge load (set p a Z) Z y ≡ true
      back k w =
          why_edge load (set p a Z) Z y (λ e. not_z y _ w.to (sym e))
          (by_entry k w.entry (lies-entry load (set p a Z) Z y k (a_lies _ w.from) (there y _ w.to)))

  pub ins-read : (x : ℕ) → (ins load p a Z x ≡ true) ↔ Needed load p a x
  ins-read x = (λ h. let r = edge_why load (set p a Z) x Z h in to r.0 r.1, back)
    where
      to : (x ≡ Z → ⊥) → Why load (set p a Z) x Z → Needed load p a x
      to d (by_entry k l t) = let r = entry-lies load (set p a Z) x Z k t in by_atom k l (other x _ d r.0) (is_a _ r.1)
      to d (by_facade e l t) =
          let r = occupied-by load (set p a Z) x t.here in
          by_bit e l t.bit (is_a _ t.there) t.hosted r.0 (other x r.0 d (lies_in load (set p a Z) x r.0 r.1 r.2))

      back : Needed load p a x → edge load (set p a Z) x Z ≡ true
      back (by_atom k l o e) = why_edge load (set p a Z) x Z (not_z x _ o) (by_entry k l (lies-entry load (set p a Z) x Z k (there x _ o) (a_lies _ e)))
      back (by_bit e l q h u i o) =
          why_edge load (set p a Z) x Z (not_z x i o)
          (by_facade e l (record { bit = q; here = occupy load (set p a Z) x i o.atom (lies-set load (set p a Z) x i (there x i o)); hosted = u; there = a_lies _ h }))

  pub without-read : (x y : ℕ) → (without load p a Z x y ≡ true) ↔ ((x ≡ y → ⊥) × Between load p a x y)
  without-read x y = (
    λ h. let c = cut_edge (edge load (set p a Z)) Z x y h in let r = edge_why load (set p a Z) x y c.0 in (r.0, to c.1 c.2 r.1),
    λ w. back w.0 w.1,
  )
    where
      to : (x ≡ Z → ⊥) → (y ≡ Z → ⊥) → Why load (set p a Z) x y → Between load p a x y
      to c d (by_entry k l t) = let r = entry-lies load (set p a Z) x y k t in by_atoms k l (other x _ c r.0) (other y _ d r.1)
      to c d (by_facade e l t) =
          let r = occupied-by load (set p a Z) x t.here in
          by_host e l t.bit (other y _ d t.there) t.hosted r.0 (other x r.0 c (lies_in load (set p a Z) x r.0 r.1 r.2))

      back : (x ≡ y → ⊥) → Between load p a x y → without load p a Z x y ≡ true
      back d (by_atoms k l o w) =
          edge-cut (edge load (set p a Z)) Z x y
          (why_edge load (set p a Z) x y d (by_entry k l (lies-entry load (set p a Z) x y k (there x _ o) (there y _ w)))) (not_z x _ o) (not_z y _ w)
      back d (by_host e l q w u i o) =
          edge-cut (edge load (set p a Z)) Z x y
          (why_edge load (set p a Z) x y d
          (by_facade e l (record { bit = q; here = occupy load (set p a Z) x i o.atom (lies-set load (set p a Z) x i (there x i o)); hosted = u; there = there y _ w })))
          (not_z x i o) (not_z y _ w)
