-- Which moves of an atom to an occupied set close a cycle: two walks in the graph without the atom answer for all of them. Assumes nothing.
use Rattle.std.specs.Prelude.{ℕ, ◌^◌, ◌<◌, ◌≡◌, refl, Bool, true, false, List, length, set}
use Rattle.std.proofs.Common.{arith, sym, ap, ◌∙◌, ⊎_elim, true≢false, get_or-set_same, get_or-set_other}
use Rattle.std.proofs.Math.Decide.{ℕ_discrete}
use Rattle.std.proofs.Math.Pow.{pow-lt}
use Rattle.graphs.specs.Lists.{has, has-place}
use Rattle.graphs.specs.Walk.{Walk, cyclic, only}
use Rattle.graphs.specs.Walks.{join, closed, cyclic_walk, only_walk}
use Rattle.move_ledger.specs.Graph.{Load, at, edge}
use Rattle.move_ledger.specs.GraphLaws.{apart_back}
use Rattle.move_ledger.proofs.GraphLaws.{edge_kept, edge-source, edge-target}
use Rattle.move_free_walks.specs.Joins.{edge-cut, Acyclic}
use Rattle.move_free_walks.specs.Alone.{rest, out, into, Alone, Back}

-- a set that no other atom has, and that is no {e}, will do
pub alone_in : (load : Load) (p : List ℕ) (a Z : ℕ) → length p ≡ load.A → a < load.A → ((i : ℕ) → i < load.A → (i ≡ a → ⊥) → at p i ≡ Z → ⊥)
    → ((e : ℕ) → e < load.E → Z ≡ 2 ^ e → ⊥) → Alone load (set p a Z) a Z
alone_in load p a Z n b f g = record {
  atom = b;
  here = get_or-set_same p a Z 0 (omega arith);
  alone = λ i l h. pick i l h (ℕ_discrete i a);
  no_bit = g;
}
  where
    pick : (i : ℕ) → i < load.A → at (set p a Z) i ≡ Z → Dec (i ≡ a) → i ≡ a
    pick i l h (yes e) = e
    pick i l h (no d) = absurd (f i l d (sym (get_or-set_other p a i Z 0 d) ∙ h))

-- where every set is in range, 2 ^ E will do
pub alone_top : (load : Load) (p : List ℕ) (a : ℕ) → length p ≡ load.A → a < load.A → ((i : ℕ) → i < load.A → at p i < 2 ^ load.E)
    → Alone load (set p a (2 ^ load.E)) a (2 ^ load.E)
alone_top load p a n b f = alone_in load p a (2 ^ load.E) n b (λ i l d h. omega (arith, f i l)) (λ e l h. omega (arith, pow-lt l))

pub back-moved : (p : List ℕ) (a Z X : ℕ) → a < length p → Back (set p a Z) (set p a X) a X
back-moved p a Z X b = record {
  apart = record { else = λ i d. get_or-set_other p a i Z 0 d ∙ sym (get_or-set_other p a i X 0 d) };
  there = get_or-set_same p a X 0 b;
}

pub back_now : (p : List ℕ) (a Z : ℕ) → Back (set p a Z) p a (at p a)
back_now p a Z = record { apart = record { else = λ i d. get_or-set_other p a i Z 0 d }; there = refl }

-- the chunk graph without atom a; the sets that a leads to; the sets that lead to a
abbrev pub without : Load → List ℕ → ℕ → ℕ → ℕ → ℕ → Bool
without load p a Z = rest load (set p a Z) Z

abbrev pub outs : Load → List ℕ → ℕ → ℕ → ℕ → Bool
outs load p a Z = out load (set p a Z) Z

abbrev pub ins : Load → List ℕ → ℕ → ℕ → ℕ → Bool
ins load p a Z = into load (set p a Z) Z

module _ (load : Load) (p : List ℕ) (a Z : ℕ) (n : length p ≡ load.A) (v : Alone load (set p a Z) a Z) where
  abbrev pub H : ℕ → ℕ → Bool
  H = without load p a Z

  -- a set of the placement other than the atom's isn't Z
  other-set : (x : ℕ) → (x ≡ at p a → ⊥) → has x p ≡ true → x ≡ Z → ⊥
  other-set x d h e =
      let r = has-place x p h in
      let m : r.0 ≡ a → ⊥ = λ z. d (sym r.2 ∙ ap (at p) z) in
      m (v.alone r.0 (omega (arith, r.1)) (sym ((apart_back p a Z).else r.0 m) ∙ r.2 ∙ e))

  -- an edge between sets other than the atom's is one without the atom
  pub kept : (x y : ℕ) → (x ≡ at p a → ⊥) → (y ≡ at p a → ⊥) → edge load p x y ≡ true → without load p a Z x y ≡ true
  kept x y c d h =
      edge-cut (edge load (set p a Z)) Z x y (edge_kept load (apart_back p a Z) x y c d h) (other-set x c (edge-source load p n x y h)) (other-set y d (edge-target load p n x y h))

  -- of a cyclic graph: step 1 rejects where the atom's set is outside the only cyclic component, and then there is a cycle without the atom
  pub outside-cyclic : cyclic (edge load p) p ≡ true → only (edge load p) p (at p a) ≡ false → Acyclic H → ⊥
  outside-cyclic h o f =
      let c = (cyclic_walk (edge load p) p (edge-source load p n)).0 h in
      let r = meet c.0 c.1 in
      true≢false (sym ((only_walk (edge load p) p (edge-source load p n) (at p a)).1 (join r.1 r.0, λ Y w. let k = meet Y w in (k.1, k.0))) ∙ o)
    where
      meet : (Y : ℕ) → Walk (edge load p) Y Y → Walk (edge load p) Y (at p a) × Walk (edge load p) (at p a) Y
      meet Y w = ⊎_elim (λ u. absurd (f Y u)) (λ k. k) (closed (at p a) kept Y w)
