-- Laws of the chunk graph: what an edge is, where it starts, and what a move does to edges. Assumes nothing.
use Prim.Native.Nat.{ℕ, ◌^◌, ◌<◌}
use Rattle.std.proofs.Common.{sym, ap, get_or-set_other}
use Rattle.std.specs.Prelude.{◌≡◌, true, not, List, ltb, set}
use Rattle.std.proofs.Math.Dec.{eqb}
use borrow.Author.Tests.{ltb-true, lt-ltb, eqb-true, eqb-false, eq-eqb, ne_eqb, not-true}
use Rattle.graphs.specs.Bools.{and_left, and_right, and_both}
use Rattle.graphs.specs.Count.{count_pos, count-found}
use Rattle.move_ledger.specs.Graph.{Load, none, at, owner, lies, members, occupied, entry, facade}

module _ (load : Load) (p : List ℕ) (X : ℕ) where
  pub lies_atom : (i : ℕ) → lies load p i X ≡ true → i < load.A
  unfolding lies
  lies_atom i h = ltb-true i _ (and_left (ltb i load.A) _ h)

  pub lies-set : (i : ℕ) → lies load p i X ≡ true → at p i ≡ X
  unfolding lies
  lies-set i h = eqb-true _ _ (and_right (ltb i load.A) _ h)

  pub lies_in : (i : ℕ) → i < load.A → at p i ≡ X → lies load p i X ≡ true
  unfolding lies
  lies_in i l h = and_both (ltb i load.A) _ (lt-ltb _ _ l) (eq-eqb _ _ h)

  -- an occupied set has an atom
  pub occupied-by : occupied load p X ≡ true → (i : ℕ) × (i < load.A) × (at p i ≡ X)
  unfolding members
  occupied-by h = let r = count-found (λ i. eqb (at p i) X) load.A (ltb-true 0 _ h) in (r.0, r.1, eqb-true _ _ r.2)

  pub occupy : (i : ℕ) → i < load.A → at p i ≡ X → occupied load p X ≡ true
  unfolding members
  occupy i l h = lt-ltb 0 _ (count_pos (λ i. eqb (at p i) X) load.A i l (eq-eqb _ _ h))

-- a dependency entry from X to Y
pub entry-lies : (load : Load) (p : List ℕ) (X Y k : ℕ) → entry load p X Y k ≡ true → (lies load p (owner load k) X ≡ true) × (lies load p (at load.dependencies k) Y ≡ true)
unfolding entry
entry-lies load p X Y k h = (and_left (lies load p (owner load k) X) _ h, and_right (lies load p (owner load k) X) _ h)

pub lies-entry : (load : Load) (p : List ℕ) (X Y k : ℕ) → lies load p (owner load k) X ≡ true → lies load p (at load.dependencies k) Y ≡ true → entry load p X Y k ≡ true
unfolding entry
lies-entry load p X Y k f t = and_both (lies load p (owner load k) X) _ f t

-- a facade edge of bit e from X to Y
pub record Faces (load : Load) (p : List ℕ) (X Y e : ℕ) : Type 0 where
  pub bit : X ≡ 2 ^ e
  pub here : occupied load p X ≡ true
  pub hosted : at load.hosts e ≡ none → ⊥
  pub there : lies load p (at load.hosts e) Y ≡ true

pub facade_faces : (load : Load) (p : List ℕ) (X Y e : ℕ) → facade load p X Y e ≡ true → Faces load p X Y e
unfolding facade
facade_faces load p X Y e h =
    let u = and_right (eqb X (2 ^ e)) _ h in
    let v = and_right (occupied load p X) _ u in
    record {
      bit = eqb-true _ _ (and_left (eqb X (2 ^ e)) _ h);
      here = and_left (occupied load p X) _ u;
      hosted = eqb-false _ _ (not-true _ (and_left (not (eqb (at load.hosts e) none)) _ v));
      there = and_right (not (eqb (at load.hosts e) none)) _ v;
    }

pub faces_facade : {load : Load} {p : List ℕ} {X Y e : ℕ} → Faces load p X Y e → facade load p X Y e ≡ true
unfolding facade
faces_facade {load} {p} {X} {Y} {e} f =
    and_both (eqb X (2 ^ e)) _ (eq-eqb _ _ f.bit)
    (and_both (occupied load p X) _ f.here
    (and_both (not (eqb (at load.hosts e) none)) _ (ap not (ne_eqb _ _ f.hosted))
    f.there))

-- an edge is a dependency entry or a facade edge, between two different sets
pub data Why (load : Load) (p : List ℕ) (X Y : ℕ) : Type 0 where
  by_entry : (k : ℕ) → k < load.D → entry load p X Y k ≡ true → Why load p X Y
  by_facade : (e : ℕ) → e < load.E → Faces load p X Y e → Why load p X Y

-- two placements that differ at atom a only
pub record Apart (p q : List ℕ) (a : ℕ) : Type 0 where
  pub else : (i : ℕ) → (i ≡ a → ⊥) → at p i ≡ at q i

pub apart : (p : List ℕ) (a T : ℕ) → Apart (set p a T) p a
apart p a T = record { else = λ i d. get_or-set_other p a i T 0 d }

pub apart_back : (p : List ℕ) (a T : ℕ) → Apart p (set p a T) a
apart_back p a T = record { else = λ i d. sym (get_or-set_other p a i T 0 d) }
