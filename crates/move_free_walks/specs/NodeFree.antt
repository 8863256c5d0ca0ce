-- For the code: which moves of an atom are free, in node numbers. The atom stands alone at a node z. Assumes nothing.
use Rattle.std.specs.Prelude.{ℕ, ◌^◌, ◌<◌, ◌≡◌, Bool, not, ◌&&◌, List, eqb, ltb, length, set}
use Rattle.std.proofs.Common.{arith, sym, subst, ◌∙◌, true≢false}
use Rattle.std.proofs.Math.Path.{refl}
use Rattle.std.proofs.Math.Bool.{true, false}
use Rattle.std.proofs.Math.Pow.{pow-lt}
use Rattle.std.proofs.lemmas.Bool.{eqb-false, not-true}
use Rattle.graphs.specs.Bools.{Decides}
use Rattle.graphs.specs.Count.{count, count_ext}
use Rattle.graphs.specs.Lists.{has, has-place}
use Rattle.graphs.specs.Slots.{slot_edge}
use Rattle.graphs.specs.Walk.{cyclic}
use Rattle.graphs.specs.Relabel.{Named}
use Rattle.move_ledger.specs.Graph.{Load, at, occupied, mult, edge}
use Rattle.move_ledger.proofs.GraphLaws.{edge-source, edge-target}
use Rattle.move_ledger.specs.Ledger.{put}
use Rattle.move_ledger.specs.Places.{put_same, put-there}
use Rattle.move_ledger.specs.LoadLaws.{InOrder}
use Rattle.move_ledger.specs.Nodes.{placed, Placing, node_edge}
use Rattle.move_ledger.specs.NodeLaws.{placed-length, placed_at}
use Rattle.move_ledger.specs.NodeWalks.{edge-inside}
use Rattle.move_ledger.proofs.NodeWalks.{mult-nodes}
use Rattle.move_free_walks.specs.Joins.{cut, Ahead, Behind}

-- the sets name the nodes
pub nodes-named : {load : Load} {nodes sets : List ℕ} → InOrder load → Placing load nodes sets → Named (node_edge load nodes sets) (edge load (placed nodes sets)) (length sets) (at sets)
unfolding slot_edge edge
nodes-named {load} {nodes} {sets} o p = record {
  injective = p.distinct;
  source = λ x y h. (edge-inside o p x y h).0;
  over = λ x y h. let b = edge-inside o p x y h in subst (λ n. ltb 0 n ≡ true) (mult-nodes o p x y b.0 b.1) h;
  named = λ X Y h. node X (edge-source load (placed nodes sets) long X Y h);
  back = λ x Y b h.
      let y = node Y (edge-target load (placed nodes sets) long (at sets x) Y h) in
      (y.0, y.1, y.2, subst (λ n. ltb 0 n ≡ true) (sym (mult-nodes o p x y.0 b y.1)) (subst (λ Z. ltb 0 (mult load (placed nodes sets) (at sets x) Z) ≡ true) (sym y.2) h));
}
  where
    long : length (placed nodes sets) ≡ load.A
    long = placed-length nodes sets ∙ p.atoms

    node : (X : ℕ) → has X (placed nodes sets) ≡ true → (x : ℕ) × (x < length sets) × (at sets x ≡ X)
    node X h =
        let r = has-place X (placed nodes sets) h in
        let i : r.0 < load.A = omega (arith, r.1, long) in
        (at nodes r.0, p.inside r.0 i, sym (placed_at nodes sets r.0 (omega (arith, p.atoms))) ∙ r.2)

-- atom a can stand alone at node z: no other atom is there, and its set is no {e}
pub record Spare (load : Load) (nodes sets : List ℕ) (a z : ℕ) : Type 0 where
  pub atom : a < load.A
  pub within : z < length sets
  pub empty : (i : ℕ) → i < load.A → (i ≡ a → ⊥) → at nodes i ≡ z → ⊥
  pub no_bit : (e : ℕ) → e < load.E → at sets z ≡ 2 ^ e → ⊥

-- one node more, for the set 2 ^ E, will do where every registered set is in range; each atom is in the set that it was in (`placed-put`)
pub spare_top : {load : Load} {nodes sets : List ℕ} → Placing load nodes sets → (a : ℕ) → a < load.A
    → Spare load nodes (put (length sets) (2 ^ load.E) sets) a (length sets)
spare_top {load} {nodes} {sets} p a b = record {
  atom = b;
  within = put-there (length sets) (2 ^ load.E) sets (omega arith);
  empty = λ i l d e. omega (arith, p.inside i l);
  no_bit = λ e l h. omega (arith, pow-lt l, put_same (length sets) (2 ^ load.E) sets (omega arith));
}

-- the edges with atom a at z; without z; from z; to z
abbrev pub aside : Load → List ℕ → List ℕ → ℕ → ℕ → ℕ → ℕ → Bool
aside load nodes sets a z = node_edge load (set nodes a z) sets

abbrev pub node_rest : Load → List ℕ → List ℕ → ℕ → ℕ → ℕ → ℕ → Bool
node_rest load nodes sets a z = cut (aside load nodes sets a z) z

abbrev pub node_out : Load → List ℕ → List ℕ → ℕ → ℕ → ℕ → Bool
node_out load nodes sets a z = aside load nodes sets a z z

abbrev pub node_in : Load → List ℕ → List ℕ → ℕ → ℕ → ℕ → Bool
node_in load nodes sets a z = λ x. aside load nodes sets a z x z

-- the graph after the move of atom a to the set of node X has no cycle
abbrev pub Fine : Load → List ℕ → List ℕ → ℕ → ℕ → Type 0
Fine load nodes sets a X = cyclic (edge load (set (placed nodes sets) a (at sets X))) (set (placed nodes sets) a (at sets X)) ≡ false

module _ {load : Load} {nodes sets : List ℕ} (o : InOrder load) (p : Placing load nodes sets) (a z : ℕ) (s : Spare load nodes sets a z) where
  pub long : length (placed nodes sets) ≡ load.A
  long = placed-length nodes sets ∙ p.atoms

  -- what code counts: f marks the nodes reached from z's, b those that reach z's, both without z
  pub record Walked (f b : ℕ → Bool) : Type 0 where
    pub fore : (X : ℕ) → X < length sets → Decides (Ahead (node_rest load nodes sets a z) (node_out load nodes sets a z) X) (f X)
    pub aft : (X : ℕ) → X < length sets → Decides (Behind (node_rest load nodes sets a z) (node_in load nodes sets a z) X) (b X)

-- how many nodes with an atom, other than a's, pass a test
unfoldable pub counted : Load → List ℕ → ℕ → ℕ → (ℕ → Bool) → ℕ
counted load nodes a n t = count (λ X. occupied load nodes X && (not (eqb X (at nodes a)) && t X)) n

-- the test of plain trials: whether the moved graph has no cycle
abbrev pub fine : Load → List ℕ → List ℕ → ℕ → ℕ → Bool
fine load nodes sets a X = not (cyclic (edge load (set (placed nodes sets) a (at sets X))) (set (placed nodes sets) a (at sets X)))

guard : (s t x y : Bool) → (s ≡ true → t ≡ true → x ≡ y) → (s && (t && x)) ≡ (s && (t && y))
guard true true x y f = f refl refl
guard true false x y f = refl
guard false t x y f = refl

fine_is : (c t : Bool) → Decides (c ≡ false) t → not c ≡ t
fine_is true true d = absurd (true≢false (d.right refl))
fine_is true false d = refl
fine_is false true d = refl
fine_is false false d = absurd (d.wrong refl refl)

-- tests that decide count the same
pub counted_same : (load : Load) (nodes sets : List ℕ) (a : ℕ) (t : ℕ → Bool)
    → ((X : ℕ) → X < length sets → occupied load nodes X ≡ true → (X ≡ at nodes a → ⊥) → Decides (Fine load nodes sets a X) (t X))
    → counted load nodes a (length sets) (fine load nodes sets a) ≡ counted load nodes a (length sets) t
unfolding counted
counted_same load nodes sets a t f =
    count_ext _ _ (length sets) (λ X l. guard (occupied load nodes X) (not (eqb X (at nodes a))) _ _ (λ u d. fine_is _ (t X) (f X l u (eqb-false _ _ (not-true _ d)))))
