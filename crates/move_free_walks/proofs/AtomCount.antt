-- Theorems on the definitions of specs/AtomCount: they stand here, so that the crate can be read with a definition changed. Assumes nothing.
use Rattle.std.specs.Prelude.{ℕ, ◌+◌, ◌^◌, ◌≤◌, ◌<◌, ◌≡◌, Bool, false, not, ◌&&◌, List, eqb, ltb, length, set}
use Rattle.std.proofs.Common.{arith, ap₂, ◌∙◌}
use Rattle.std.proofs.Math.Path.{sym, ap, subst}
use Rattle.graphs.specs.Bools.{Decides}
use Rattle.graphs.specs.Count.{ind, count, count-more, count_ext}
use Rattle.graphs.specs.Slots.{slot_edge}
use Rattle.graphs.specs.SlotLaws.{mult_self}
use Rattle.graphs.specs.Walk.{cyclic}
use Rattle.move_ledger.specs.Graph.{Load, none, at, occupied, edge}
use Rattle.move_ledger.specs.LoadLaws.{InOrder}
use Rattle.move_ledger.specs.Nodes.{placed, Placing, sources, targets, node_edge}
use Rattle.move_ledger.specs.NodePlaces.{placed-put}
use Rattle.move_free_walks.specs.Joins.{cut, Ahead, Behind, Acyclic}
use Rattle.move_free_walks.specs.NodeFree.{aside, node_rest, fine, counted}
use Rattle.move_free_walks.proofs.NodeFree.{counted-free, counted_none, node_rest_acyclic}
use Rattle.move_free_walks.specs.SpareNode.{bare, counted_spare}
use Rattle.move_free_walks.specs.Counted.{meets, is_free}
use Rattle.move_free_walks.specs.ByMarks.{after, before, free_by, after_decides, before_decides, free_is}
use Rattle.move_free_walks.specs.AtomCount.{z, more, e, long, grown, spare, same_edges, inside}
use Rattle.move_free_walks.specs.AtomCount as atomCount_here

module _ {load : Load} {nodes sets : List ℕ} (o : InOrder load) (p : Placing load nodes sets) (small : (x : ℕ) → x < length sets → at sets x < 2 ^ load.E)
    (few : length sets + 1 ≤ none) (a : ℕ) (b : a < load.A) where
  loose : (atomCount_here.e o p small few a b) (atomCount_here.z o p small few a b) (atomCount_here.z o p small few a b) ≡ false
  unfolding slot_edge
  loose = ap (ltb 0) (mult_self (sources load (set nodes a (length sets)) sets) (targets load (set nodes a (length sets)) sets) (load.D + load.E) (length sets))

  -- the last node has no atom, so that it doesn't count
  last-bare : (t : ℕ → Bool) → counted load nodes a (length (atomCount_here.more o p small few a b)) t ≡ counted load nodes a (length sets) t
  unfolding counted
  last-bare t =
      ap (count (λ X. occupied load nodes X && (not (eqb X (at nodes a)) && t X))) (atomCount_here.long o p small few a b) ∙ count-more _ (length sets)
      ∙ ap (λ u. count (λ X. occupied load nodes X && (not (eqb X (at nodes a)) && t X)) (length sets) + ind (u && (not (eqb (length sets) (at nodes a)) && t (length sets)))) (bare p (2 ^ load.E))
      ∙ native.Mathlib.Nat.add-zero _

  -- where there is no cycle without the atom
  pub marks-count : Acyclic (cut (node_edge load (set nodes a (length sets)) sets) (length sets))
      → counted load nodes a (length sets) (fine load nodes sets a) ≡ counted load nodes a (length sets) (free_by (node_edge load (set nodes a (length sets)) sets) (length sets) (length sets + 1))
  unfolding counted
  marks-count g =
      sym (counted_spare p (2 ^ load.E) a)
      ∙ counted-free o (atomCount_here.grown o p small few a b) a (length sets) (atomCount_here.spare o p small few a b) (after (atomCount_here.e o p small few a b) (atomCount_here.z o p small few a b) ((atomCount_here.z o p small few a b) + 1)) (before (atomCount_here.e o p small few a b) (atomCount_here.z o p small few a b) ((atomCount_here.z o p small few a b) + 1)) (record { fore = λ X l. fore X; aft = λ X l. aft X }) (subst (λ h. Acyclic (cut h (atomCount_here.z o p small few a b))) (sym (atomCount_here.same_edges o p small few a b)) g)
      ∙ last-bare _
      ∙ count_ext _ _ (length sets) (λ X l. ap (λ t. occupied load nodes X && (not (eqb X (at nodes a)) && t)) (test X))
    where
      fore : (X : ℕ) → Decides (Ahead (node_rest load nodes (atomCount_here.more o p small few a b) a (atomCount_here.z o p small few a b)) (aside load nodes (atomCount_here.more o p small few a b) a (atomCount_here.z o p small few a b) (atomCount_here.z o p small few a b)) X) (after (atomCount_here.e o p small few a b) (atomCount_here.z o p small few a b) ((atomCount_here.z o p small few a b) + 1) X)
      fore X = subst (λ h. Decides (Ahead (cut h (atomCount_here.z o p small few a b)) (h (atomCount_here.z o p small few a b)) X) (after (atomCount_here.e o p small few a b) (atomCount_here.z o p small few a b) ((atomCount_here.z o p small few a b) + 1) X)) (sym (atomCount_here.same_edges o p small few a b)) (after_decides (atomCount_here.e o p small few a b) (atomCount_here.z o p small few a b) ((atomCount_here.z o p small few a b) + 1) (λ x y h. ((atomCount_here.inside o p small few a b) x y h).0) (λ x y h. ((atomCount_here.inside o p small few a b) x y h).1) loose X)

      aft : (X : ℕ) → Decides (Behind (node_rest load nodes (atomCount_here.more o p small few a b) a (atomCount_here.z o p small few a b)) (λ x. aside load nodes (atomCount_here.more o p small few a b) a (atomCount_here.z o p small few a b) x (atomCount_here.z o p small few a b)) X) (before (atomCount_here.e o p small few a b) (atomCount_here.z o p small few a b) ((atomCount_here.z o p small few a b) + 1) X)
      aft X = subst (λ h. Decides (Behind (cut h (atomCount_here.z o p small few a b)) (λ x. h x (atomCount_here.z o p small few a b)) X) (before (atomCount_here.e o p small few a b) (atomCount_here.z o p small few a b) ((atomCount_here.z o p small few a b) + 1) X)) (sym (atomCount_here.same_edges o p small few a b)) (before_decides (atomCount_here.e o p small few a b) (atomCount_here.z o p small few a b) ((atomCount_here.z o p small few a b) + 1) (λ x y h. ((atomCount_here.inside o p small few a b) x y h).0) (λ x y h. ((atomCount_here.inside o p small few a b) x y h).1) loose X)

      test : (X : ℕ)
          → is_free (aside load nodes (atomCount_here.more o p small few a b) a (atomCount_here.z o p small few a b) (atomCount_here.z o p small few a b)) (λ x. aside load nodes (atomCount_here.more o p small few a b) a (atomCount_here.z o p small few a b) x (atomCount_here.z o p small few a b)) (after (atomCount_here.e o p small few a b) (atomCount_here.z o p small few a b) ((atomCount_here.z o p small few a b) + 1)) (before (atomCount_here.e o p small few a b) (atomCount_here.z o p small few a b) ((atomCount_here.z o p small few a b) + 1)) (count (meets (aside load nodes (atomCount_here.more o p small few a b) a (atomCount_here.z o p small few a b) (atomCount_here.z o p small few a b)) (λ x. aside load nodes (atomCount_here.more o p small few a b) a (atomCount_here.z o p small few a b) x (atomCount_here.z o p small few a b)) (before (atomCount_here.e o p small few a b) (atomCount_here.z o p small few a b) ((atomCount_here.z o p small few a b) + 1))) (length (atomCount_here.more o p small few a b))) X
          ≡ free_by (atomCount_here.e o p small few a b) (atomCount_here.z o p small few a b) ((atomCount_here.z o p small few a b) + 1) X
      test X =
          ap₂ (λ h k. is_free (h (atomCount_here.z o p small few a b)) (λ x. h x (atomCount_here.z o p small few a b)) (after (atomCount_here.e o p small few a b) (atomCount_here.z o p small few a b) ((atomCount_here.z o p small few a b) + 1)) (before (atomCount_here.e o p small few a b) (atomCount_here.z o p small few a b) ((atomCount_here.z o p small few a b) + 1)) (count (meets (h (atomCount_here.z o p small few a b)) (λ x. h x (atomCount_here.z o p small few a b)) (before (atomCount_here.e o p small few a b) (atomCount_here.z o p small few a b) ((atomCount_here.z o p small few a b) + 1))) k) X) (atomCount_here.same_edges o p small few a b) (atomCount_here.long o p small few a b)
          ∙ free_is (atomCount_here.e o p small few a b) (atomCount_here.z o p small few a b) ((atomCount_here.z o p small few a b) + 1) (λ x y h. ((atomCount_here.inside o p small few a b) x y h).0) (λ x y h. ((atomCount_here.inside o p small few a b) x y h).1) loose X

  -- where there is one, none is accepted
  pub none-count : (Acyclic (cut (node_edge load (set nodes a (length sets)) sets) (length sets)) → ⊥) → counted load nodes a (length sets) (fine load nodes sets a) ≡ 0
  none-count g = sym (counted_spare p (2 ^ load.E) a) ∙ counted_none o (atomCount_here.grown o p small few a b) a (length sets) (atomCount_here.spare o p small few a b) (λ x. false) (λ x. false) (λ h. g (subst (λ h. Acyclic (cut h (atomCount_here.z o p small few a b))) (atomCount_here.same_edges o p small few a b) h))

  -- from an acyclic graph there is none
  pub rest-free : cyclic (edge load (placed nodes sets)) (placed nodes sets) ≡ false → Acyclic (cut (node_edge load (set nodes a (length sets)) sets) (length sets))
  rest-free h =
      subst (λ g. Acyclic (cut g (atomCount_here.z o p small few a b))) (atomCount_here.same_edges o p small few a b)
      (node_rest_acyclic o (atomCount_here.grown o p small few a b) a (length sets) (atomCount_here.spare o p small few a b) (subst (λ q. cyclic (edge load q) q ≡ false) (sym (placed-put p (length sets) (2 ^ load.E) (omega arith) (bare p (2 ^ load.E)))) h))
