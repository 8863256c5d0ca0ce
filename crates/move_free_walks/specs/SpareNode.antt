-- For the code: a node more, for the spare set, changes no present edge and no count. Assumes nothing.
use Prim.Native.Nat.{ℕ, ◌+◌, ◌<◌}
use Rattle.std.proofs.Common.{arith, ap₂, ◌∙◌}
use Rattle.std.specs.Prelude.{◌≡◌, refl, false, not, ◌&&◌, List, eqb, length, set}
use Rattle.std.proofs.Math.Path.{ap}
use Rattle.std.proofs.Math.Bool.{Bool}
use Rattle.graphs.specs.Bools.{fails}
use Rattle.graphs.specs.Count.{ind, count, count-more, count_ext}
use Rattle.graphs.specs.Slots.{slot_edge}
use Rattle.graphs.specs.Walk.{cyclic}
use Rattle.move_ledger.specs.Graph.{Load, at, occupied, edge}
use Rattle.move_ledger.specs.GraphLaws.{occupied-by}
use Rattle.move_ledger.specs.Ledger.{put}
use Rattle.move_ledger.specs.Nodes.{Placing, node_edge}
use Rattle.move_ledger.specs.Places.{put_behind, put_other}
use Rattle.move_ledger.specs.NodePlaces.{placed-put, sources-put, targets-put}
use Rattle.move_free_walks.specs.NodeFree.{counted, fine}

module _ {load : Load} {nodes sets : List ℕ} (p : Placing load nodes sets) (Z : ℕ) where
  abbrev more : List ℕ
  more = put (length sets) Z sets

  longer : length more ≡ length sets + 1
  longer = put_behind (length sets) Z sets (omega arith) refl

  same_set : (x : ℕ) → x < length sets → at more x ≡ at sets x
  same_set x l = (put_other (length sets) Z sets (omega arith) x (omega (arith, longer)) (λ e. omega arith)).1

  -- the new node has no atom
  pub bare : occupied load nodes (length sets) ≡ false
  bare = fails _ (λ h. let r = occupied-by load nodes (length sets) h in omega (arith, r.2, p.inside r.0 r.1))

  -- the plain trials count the same
  pub counted_spare : (a : ℕ) → counted load nodes a (length (put (length sets) Z sets)) (fine load nodes (put (length sets) Z sets) a) ≡ counted load nodes a (length sets) (fine load nodes sets a)
  unfolding counted
  counted_spare a =
      ap (count term) longer ∙ count-more term (length sets)
      ∙ ap (λ t. count term (length sets) + ind (t && (not (eqb (length sets) (at nodes a)) && fine load nodes more a (length sets)))) bare
      ∙ native.Mathlib.Nat.add-zero (count term (length sets))
      ∙ count_ext term _ (length sets) (λ X l. ap (λ t. occupied load nodes X && (not (eqb X (at nodes a)) && t)) (each X l))
    where
      term : ℕ → Bool
      term X = occupied load nodes X && (not (eqb X (at nodes a)) && fine load nodes more a X)

      each : (X : ℕ) → X < length sets → fine load nodes more a X ≡ fine load nodes sets a X
      each X l = ap₂ (λ q Y. not (cyclic (edge load (set q a Y)) (set q a Y))) (placed-put p (length sets) Z (omega arith) bare) (same_set X l)

  -- the present edges are the same
  pub spare_edges : (x y : ℕ) → node_edge load nodes (put (length sets) Z sets) x y ≡ node_edge load nodes sets x y
  spare_edges x y = ap₂ (λ s t. slot_edge s t (load.D + load.E) x y) (sources-put p (length sets) Z (omega arith) bare) (targets-put p (length sets) Z (omega arith) bare)
