-- Questions about sets on a checked area: the node of a set, its atom count, and the multiplicity between two. Assumes nothing.
use Prim.Native.Nat.{ℕ, ◌+◌, ◌*◌, ◌≤◌, ◌<◌}
use native.Mathlib.Omega.{arith}
use mathlib.Core.Path.{◌≡◌, refl, sym, ap, ap₂, ◌∙◌}
use mathlib.Core.Bool.{false, not, true≢false}
use mathlib.Core.List.{List}
use lib.Dec.{eqb, ltb}
use lib.ListN.{length, get_or}
use Rattle.graphs.specs.Bools.{fails, and_right}
use Rattle.graphs.specs.Lists.{has, has-place}
use Rattle.graphs.specs.Slots.{slot_edge}
use Rattle.graphs.specs.SlotLaws.{flat-mult}
use Rattle.graphs.specs.Square.{index_lt}
use Rattle.entry_set.specs.Lanes.{lanes}
use Rattle.move_ledger.specs.Graph.{Load, at, members, mult, rising, edges}
use Rattle.move_ledger.specs.LoadLaws.{InOrder}
use Rattle.move_ledger.specs.Nodes.{placed, Placing, node_edge, node_mult}
use Rattle.move_ledger.specs.NodeLaws.{members-nodes}
use Rattle.move_ledger.specs.NodeWalks.{ends-nodes, members_unseen}
use Rattle.move_ledger.proofs.NodeWalks.{mult-nodes, mult_unseen}
use Rattle.move_ledger.specs.Totals.{chunk_count-nodes, above_none}
use Rattle.move_ledger.proofs.Totals.{edge-count_cells}
use Rattle.move_area.specs.Area.{sets_in, decode}
use Rattle.move_area.specs.Bodies.{lane_at}
use Rattle.move_area.specs.Checked.{nodes_in, sets-length, sets-at, ranged_placing}
use Rattle.set_order.specs.Order.{lane_set, First}
use Rattle.move_questions.specs.Answers.{place_in, set_lane, Checked}

module _ {load : Load} {n : ℕ} {area : List ℕ} {registered : ℕ} (h : Checked load n area registered) where
  pub order_of : InOrder load
  order_of = h.loadable.order

  pub placing : Placing load (nodes_in load n area) (sets_in n area)
  placing = ranged_placing h.loadable.sizes.sets h.ranged

  pub long : length (sets_in n area) ≡ registered
  long = sets-length n area ∙ sym h.sets

  pub few : registered ≤ n
  few = omega (arith, h.sets, h.ranged.few)

  pub room : n * n + 24 + 24 * n ≤ length area
  room = omega (arith, h.loadable.sizes.area)

  -- the kept totals are those of the placement
  pub edge-total : get_or area (n * n + 4) 0 ≡ length (edges load (place_in load n area))
  unfolding decode
  edge-total = h.worked.distinct ∙ sym (edge-count_cells order_of placing n (omega (arith, long, few)))

  pub chunk_total : get_or area (n * n + 3) 0 ≡ length (rising (place_in load n area))
  unfolding decode
  chunk_total = h.worked.occupied ∙ sym (chunk_count-nodes placing n (omega (arith, long, few)))

  -- the set of a node
  pub set_at : (x : ℕ) → x < length (sets_in n area) → lane_set area (set_lane n) n x ≡ at (sets_in n area) x
  set_at x b =
      let e : set_lane n + x ≡ lane_at n 0 + x = omega arith in
      ap (λ i. lanes area i n) e ∙ sym (sets-at n area x (omega (arith, sets-length n area)))

  -- a cell of the matrix is the multiplicity between two nodes
  pub cell-mult : (x y : ℕ) → x < n → y < n → get_or area (x * n + y) 0 ≡ node_mult load (nodes_in load n area) (sets_in n area) x y
  cell-mult x y bx by =
      h.worked.edges (x * n + y) (index_lt n x y bx by) ∙ flat-mult _ _ n _ x y (ends-nodes order_of placing n (omega (arith, long, few)) (omega arith)) by

  pub cell-edge : (x y : ℕ) → x < n → y < n → not (eqb (get_or area (x * n + y) 0) 0) ≡ node_edge load (nodes_in load n area) (sets_in n area) x y
  unfolding slot_edge
  cell-edge x y bx by = sym (above_none (get_or area (x * n + y) 0)) ∙ ap (ltb 0) (cell-mult x y bx by)

  -- no node has the set
  unseen : {X x : ℕ} → First (lane_set area (set_lane n) n) registered X x → registered ≤ x → has X (sets_in n area) ≡ false
  unseen {X} f b =
      fails _ (λ s. let r = has-place X (sets_in n area) s in f.none r.0 (omega (arith, r.1, long)) (set_at r.0 r.1 ∙ r.2))

  -- the node of the set
  seen : {X x : ℕ} → First (lane_set area (set_lane n) n) registered X x → x < registered → at (sets_in n area) x ≡ X
  seen {X} {x} f b = sym (set_at x (omega (arith, long))) ∙ f.is b

  module _ {X x : ℕ} (f : First (lane_set area (set_lane n) n) registered X x) where
    pub no_count : registered ≤ x → 0 ≡ members load (place_in load n area) X
    unfolding decode
    no_count b = sym (members_unseen placing X (unseen f b))

    pub its_count : x < registered → get_or area (n * n + 24 + 8 * n + x) 0 ≡ members load (place_in load n area) X
    unfolding decode members
    its_count b =
        h.worked.counts x (omega (arith, few)) ∙ members-nodes placing x (omega (arith, long)) ∙ ap (members load (placed (nodes_in load n area) (sets_in n area))) (seen f b)

    module _ {Y y : ℕ} (g : First (lane_set area (set_lane n) n) registered Y y) where
      pub no_target : registered ≤ y → 0 ≡ mult load (place_in load n area) X Y
      unfolding decode
      no_target b =
          let e = unseen g b in
          sym (mult_unseen placing X Y (fails _ (λ t. true≢false (sym (and_right (has X (sets_in n area)) _ t) ∙ e))))

      pub its_mult : x < registered → y < registered → get_or area (x * n + y) 0 ≡ mult load (place_in load n area) X Y
      unfolding decode
      its_mult a b =
          cell-mult x y (omega (arith, few)) (omega (arith, few)) ∙ mult-nodes order_of placing x y (omega (arith, long)) (omega (arith, long)) ∙ ap₂ (mult load (placed (nodes_in load n area) (sets_in n area))) (seen f a) (seen g b)

    pub no_source : (Y : ℕ) → registered ≤ x → 0 ≡ mult load (place_in load n area) X Y
    unfolding decode
    no_source Y b = sym (mult_unseen placing X Y (rw (unseen f b) refl))
