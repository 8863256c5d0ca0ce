-- For the code: the moves of an atom that are accepted, counted over nodes. The atom stands alone at node z, behind all registered sets. Assumes nothing.
use Rattle.std.specs.Prelude.{ℕ, ◌+◌, ◌^◌, ◌≤◌, ◌<◌, ◌≡◌, refl, Bool, true, false, List, length, set}
use Rattle.std.proofs.Common.{arith, ap₂, ◌∙◌}
use Rattle.std.proofs.Math.Path.{sym, ap}
use Rattle.graphs.specs.Bools.{fails}
use Rattle.graphs.specs.Lists.{has-place, below}
use Rattle.graphs.specs.Slots.{slot_edge, Ends}
use Rattle.graphs.specs.Walk.{cyclic}
use Rattle.graphs.specs.Walks.{acyclic_walk, cyclic_walk, sources-below}
use Rattle.move_ledger.specs.Graph.{Load, none, at}
use Rattle.move_ledger.specs.LoadLaws.{InOrder}
use Rattle.move_ledger.specs.Ledger.{put}
use Rattle.move_ledger.specs.Nodes.{Placing, sources, targets, node_edge}
use Rattle.move_ledger.specs.NodeWalks.{ends-nodes, edge-inside}
use Rattle.move_ledger.specs.NodeMoves.{placing_set}
use Rattle.move_ledger.specs.NodePlaces.{placing_put}
use Rattle.move_ledger.specs.Places.{put_behind}
use Rattle.move_free_walks.specs.Joins.{cut, cut_edge, Acyclic}
use Rattle.move_free_walks.specs.NodeFree.{Spare, spare_top, aside}
use Rattle.move_free_walks.specs.SpareNode.{bare}
use Rattle.move_free_walks.specs.SpareSlots.{sources_spare, targets_spare}

module _ {load : Load} {nodes sets : List ℕ} (o : InOrder load) (p : Placing load nodes sets) (small : (x : ℕ) → x < length sets → at sets x < 2 ^ load.E)
    (few : length sets + 1 ≤ none) (a : ℕ) (b : a < load.A) where
  abbrev pub z : ℕ
  z = length sets

  abbrev pub more : List ℕ
  more = put (length sets) (2 ^ load.E) sets

  -- the edges with the atom at z
  abbrev pub e : ℕ → ℕ → Bool
  e = node_edge load (set nodes a (length sets)) sets

  pub long : length more ≡ length sets + 1
  long = put_behind (length sets) (2 ^ load.E) sets (omega arith) refl

  pub grown : Placing load nodes more
  grown =
      placing_put p (length sets) (2 ^ load.E) (omega arith) (bare p (2 ^ load.E))
      (fails _ (λ h. let r = has-place (2 ^ load.E) sets h in omega (arith, small r.0 r.1, r.2))) (omega (arith, long))

  pub spare : Spare load nodes more a (length sets)
  spare = spare_top p a b

  pub same_edges : aside load nodes more a (length sets) ≡ e
  same_edges = ap₂ (λ s t. slot_edge s t (load.D + load.E)) (sources_spare load (set nodes a (length sets)) sets) (targets_spare load (set nodes a (length sets)) sets)

  pub inside : (x y : ℕ) → e x y ≡ true → (x < length sets + 1) × (y < length sets + 1)
  inside x y h =
      let r = edge-inside o (placing_set grown a (length sets) spare.within) x y (ap (λ g. g x y) same_edges ∙ h) in
      (omega (arith, r.0, long), omega (arith, r.1, long))

  -- the slots with the atom at z have their ends among z + 1 nodes
  pub aside-ends : Ends (sources load (set nodes a (length sets)) sets) (targets load (set nodes a (length sets)) sets) (length sets + 1) (load.D + load.E)
  aside-ends =
      rw (sym (sources_spare load (set nodes a (length sets)) sets), sym (targets_spare load (set nodes a (length sets)) sets))
      (ends-nodes o (placing_set grown a (length sets) spare.within) (length sets + 1) (omega (arith, long)) (omega arith))

  rest_from : (x y : ℕ) → cut e z x y ≡ true → x < length sets
  rest_from x y h = let r = cut_edge e z x y h in let b = (inside x y r.0).0 in let d = r.1 in omega arith

  -- a search among the other nodes tells
  pub rest-none : cyclic (cut (node_edge load (set nodes a (length sets)) sets) (length sets)) (below (length sets)) ≡ false → Acyclic (cut (node_edge load (set nodes a (length sets)) sets) (length sets))
  rest-none h = (acyclic_walk (cut e z) (below z) (sources-below rest_from)).0 h

  pub rest_some : cyclic (cut (node_edge load (set nodes a (length sets)) sets) (length sets)) (below (length sets)) ≡ true → Acyclic (cut (node_edge load (set nodes a (length sets)) sets) (length sets)) → ⊥
  rest_some h g = let r = (cyclic_walk (cut e z) (below z) (sources-below rest_from)).0 h in g r.0 r.1
