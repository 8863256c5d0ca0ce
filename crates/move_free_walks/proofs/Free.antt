-- Theorems on the definitions of specs/Free: they stand here, so that the crate can be read with a definition changed. Assumes nothing.
use Rattle.std.specs.Prelude.{ℕ, ◌<◌, ◌≡◌, ◌↔◌, Bool, true, false, List, length, set}
use Rattle.std.proofs.Common.{arith, sym, ap, ◌∙◌, length-set, get_or-set_other}
use Rattle.graphs.specs.Lists.{has}
use Rattle.graphs.specs.Walk.{Walk, cyclic}
use Rattle.graphs.specs.Walks.{cyclic_walk, acyclic_walk}
use Rattle.move_ledger.specs.Graph.{Load, at, occupied, edge}
use Rattle.move_ledger.specs.GraphLaws.{occupied-by, occupy}
use Rattle.move_ledger.proofs.GraphLaws.{edge-source}
use Rattle.move_free_walks.specs.Joins.{joined, old, why_joined, Closes, Ahead, Behind, Free, Acyclic, lift}
use Rattle.move_free_walks.proofs.Joins.{closes_when, acyclic_when, acyclic_own}
use Rattle.move_free_walks.specs.Alone.{Alone, Back}
use Rattle.move_free_walks.proofs.Alone.{joined-edge, edge-joined}
use Rattle.move_free_walks.specs.Free.{back-moved, back_now, without, outs, ins, H}
use Rattle.move_free_walks.specs.Free as free_here

module _ (load : Load) (p : List ℕ) (a Z : ℕ) (n : length p ≡ load.A) (v : Alone load (set p a Z) a Z) where
  abbrev O : ℕ → Bool
  O = outs load p a Z

  abbrev I : ℕ → Bool
  I = ins load p a Z

  -- without the atom there is no more cycle than with it
  pub rest_acyclic : cyclic (edge load p) p ≡ false → Acyclic (free_here.H load p a Z n v)
  rest_acyclic h x w = (acyclic_walk (edge load p) p (edge-source load p n)).0 h x (lift (λ y z t. joined-edge load v (back_now p a Z) y z (why_joined (free_here.H load p a Z n v) O I (at p a) y z (old t))) w)

  pub now_acyclic : cyclic (edge load p) p ≡ false → Acyclic (joined (free_here.H load p a Z n v) O I (at p a))
  now_acyclic h x w = (acyclic_walk (edge load p) p (edge-source load p n)).0 h x (lift (joined-edge load v (back_now p a Z)) w)

  module _ (X : ℕ) (o : occupied load p X ≡ true) (d : X ≡ at p a → ⊥) where
    -- X has an atom other than a
    other : (i : ℕ) × (i < load.A) × (at (set p a Z) i ≡ X) × (i ≡ a → ⊥)
    other =
        let r = occupied-by load p X o in
        let m : r.0 ≡ a → ⊥ = λ e. d (sym r.2 ∙ ap (at p) e) in
        (r.0, r.1, get_or-set_other p a r.0 Z 0 m ∙ r.2, m)

    still : occupied load (set p a Z) X ≡ true
    still = occupy load (set p a Z) X other.0 other.1 other.2

    not_z : X ≡ Z → ⊥
    not_z e = other.3 (v.alone other.0 other.1 (other.2 ∙ e))

    moved : Back (set p a Z) (set p a X) a X
    moved = back-moved p a Z X (omega (arith, v.atom))

    from : (x y : ℕ) → edge load (set p a X) x y ≡ true → has x (set p a X) ≡ true
    from = edge-source load (set p a X) (rw length-set n)

    -- the moved graph is the joined one
    pub moved-there : {x y : ℕ} → Walk (edge load (set p a X)) x y → Walk (joined (free_here.H load p a Z n v) O I X) x y
    moved-there w = lift (edge-joined load v moved still not_z) w

    pub moved_back : {x y : ℕ} → Walk (joined (free_here.H load p a Z n v) O I X) x y → Walk (edge load (set p a X)) x y
    moved_back w = lift (joined-edge load v moved) w

    pub moved_acyclic : (cyclic (edge load (set p a X)) (set p a X) ≡ false) ↔ Acyclic (joined (free_here.H load p a Z n v) O I X)
    moved_acyclic = (
      λ h x w. (acyclic_walk (edge load (set p a X)) (set p a X) from).0 h x (moved_back w),
      λ g. (acyclic_walk (edge load (set p a X)) (set p a X) from).1 (λ x w. g x (moved-there w)),
    )

    -- (1) or (2) or (3): a move closes a cycle, where there is none without the atom
    pub moved-closes : Acyclic (free_here.H load p a Z n v) → (cyclic (edge load (set p a X)) (set p a X) ≡ true) ↔ Closes (free_here.H load p a Z n v) O I X
    moved-closes f = (
      λ h. let w = (cyclic_walk (edge load (set p a X)) (set p a X) from).0 h in (closes_when (free_here.H load p a Z n v) O I X f).0 (w.0, moved-there w.1),
      λ c. let w = (closes_when (free_here.H load p a Z n v) O I X f).1 c in (cyclic_walk (edge load (set p a X)) (set p a X) from).1 (w.0, moved_back w.1),
    )

    -- of any graph, cyclic or not: a move leaves no cycle exactly if there is none without the atom and X is free
    pub moved-free : (cyclic (edge load (set p a X)) (set p a X) ≡ false) ↔ (Acyclic (free_here.H load p a Z n v) × Free (free_here.H load p a Z n v) O I X)
    moved-free = (
      λ h. let f = alone h in (f, (acyclic_when (free_here.H load p a Z n v) O I X f).0 (moved_acyclic.0 h)),
      λ c. moved_acyclic.1 ((acyclic_when (free_here.H load p a Z n v) O I X c.0).1 c.1),
    )
      where
        alone : cyclic (edge load (set p a X)) (set p a X) ≡ false → Acyclic (free_here.H load p a Z n v)
        alone h x w = moved_acyclic.0 h x (lift (λ y z t. why_joined (free_here.H load p a Z n v) O I X y z (old t)) w)

    -- from an acyclic graph: two walks, and one test of the atom's own set
    pub moved_own : cyclic (edge load p) p ≡ false
        → (cyclic (edge load (set p a X)) (set p a X) ≡ false) ↔ (((O (at p a) ≡ true) × (I (at p a) ≡ true) → ⊥) × (Ahead (free_here.H load p a Z n v) O X → ⊥) × (Behind (free_here.H load p a Z n v) I X → ⊥))
    moved_own h =
        let r = acyclic_own (free_here.H load p a Z n v) O I (at p a) (rest_acyclic h) (now_acyclic h) X d in
        (λ g. r.0 (moved_acyclic.0 g), λ g. moved_acyclic.1 (r.1 g))
