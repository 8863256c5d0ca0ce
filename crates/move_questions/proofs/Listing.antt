-- The k-th edge on a checked area. Assumes nothing.
use Prim.Native.Nat.{ℕ, ◌+◌, ◌≤◌, ◌<◌}
use native.Mathlib.Omega.{arith}
use native.Mathlib.Nat.{zero-add}
use mathlib.Core.Path.{◌≡◌, refl, sym, ap, ap₂, subst, ◌∙◌}
use mathlib.Core.Bool.{true, not}
use mathlib.Core.List.{List}
use lib.ListN.{length, get_or}
use Rattle.std.specs.Prelude.{Some, None, take}
use Rattle.std.proofs.lemmas.List.{length-take-le, get_or-take}
use lib.Dec.{eqb}
use borrow.Author.Tests.{ne_eqb}
use Rattle.graphs.specs.Count.{count_ext}
use Rattle.graphs.specs.Total.{total-same}
use Rattle.layout.specs.Patch.{part, part_long, part_at}
use Rattle.entry_set.specs.Sets.{number}
use Rattle.move_ledger.specs.Graph.{Load, Edge, at, edges}
use Rattle.move_ledger.specs.Answer as answer
use Rattle.move_ledger.specs.Ledger.{kth}
use Rattle.move_ledger.specs.Nodes.{node_edge, node_mult}
use Rattle.move_ledger.specs.NodeListing.{Sorted, in_row, in_rows}
use Rattle.move_ledger.proofs.NodeListing.{edge-at-nodes, edge_past_nodes}
use Rattle.move_area.specs.Area.{sets_in, decode}
use Rattle.move_area.specs.Checked.{nodes_in}
use Rattle.set_order.specs.Order.{lane_set, Ordered, order_inside}
use Rattle.move_questions.specs.Counts as counts
use Rattle.move_questions.specs.Steps.{edges_before, cells_before, CanFindRow, RowFound, CanFindCell, CellFound}
use Rattle.move_questions.specs.Answers.{place_in, set_lane, Listable, CanReadEdge, EdgeRead, of_listed}
use Rattle.move_questions.specs.declared.Edge as declared
use Rattle.move_questions.specs.declared.Row.{Row}
use Rattle.move_questions.proofs.Asking.{order_of, placing, long, few, room, set_at, cell-mult, cell-edge}

-- the part of the order that has the nodes
module _ {load : Load} {n : ℕ} {area : List ℕ} {registered : ℕ} {order degrees : List ℕ} (l : Listable load n area registered order degrees) where
  pub part_is : length (take registered order) ≡ registered
  part_is = length-take-le registered order l.order_long

  front : (i : ℕ) → i < registered → at (take registered order) i ≡ at order i
  front i b = get_or-take registered order i 0 b

  front_ordered : Ordered (lane_set area (set_lane n) n) (take registered order) registered
  front_ordered = record {
    once = λ x. count_ext _ _ registered (λ j b. ap (λ k. eqb k x) (front j b)) ∙ l.ordered.once x;
    rise = λ i j a b. rw (front i (omega arith), front j b) (l.ordered.rise i j a b);
  }

  pub listable_part : Listable load n area (length (take registered order)) (take registered order) degrees
  listable_part = rw part_is (record { checked = l.checked; order_long = omega (arith, part_is); degrees_long = l.degrees_long; ordered = front_ordered; degree_at = l.degree_at })

module _ {load : Load} {n : ℕ} {area order degrees : List ℕ} (l : Listable load n area (length order) order degrees) where
  -- the nodes by rising sets
  abbrev first : List ℕ
  first = part 0 (length (sets_in n area)) order

  ordered : Ordered (lane_set area (set_lane n) n) order (length (sets_in n area))
  ordered = subst (Ordered (lane_set area (set_lane n) n) order) (sym (long l.checked)) l.ordered

  sorted : Sorted (nodes_in load n area) (sets_in n area) first
  sorted = counts.sorted (order_of l.checked) (placing l.checked) ordered (set_at l.checked)

  first_long : length first ≡ length order
  first_long = part_long 0 (length (sets_in n area)) order ∙ long l.checked

  first-at : (q : ℕ) → q < length order → at first q ≡ at order q
  first-at q b = part_at 0 (length (sets_in n area)) order q (omega (arith, long l.checked)) ∙ ap (λ k. get_or order k 0) (zero-add q)

  pub node : (q : ℕ) → q < length order → at order q < length order
  node q b = order_inside l.ordered q b

  -- the degree of the q-th node is its row's
  degree : (q : ℕ) → q < length order → at degrees (at order q) ≡ in_row load (nodes_in load n area) (sets_in n area) first q (length first)
  degree q b =
      l.degree_at (at order q) (omega (arith, node q b, few l.checked))
      ∙ sym (counts.row_count (order_of l.checked) (placing l.checked) ordered (set_at l.checked) n q (omega (arith, long l.checked, few l.checked)) (omega (arith, long l.checked)))
      ∙ ap (in_row load (nodes_in load n area) (sets_in n area) first q) (sym (part_long 0 (length (sets_in n area)) order))

  rows : (i : ℕ) → i ≤ length order → edges_before order degrees i ≡ in_rows load (nodes_in load n area) (sets_in n area) first i
  rows i b = total-same _ _ i (λ q c. degree q (omega arith))

  row : (i j : ℕ) → i < length order → j ≤ length order → cells_before area n (at order i) order j ≡ in_row load (nodes_in load n area) (sets_in n area) first i j
  row i j a b =
      count_ext _ _ j (λ q c.
      cell-edge l.checked (at order i) (at order q) (omega (arith, node i a, few l.checked)) (omega (arith, node q (omega arith), few l.checked))
      ∙ ap₂ (node_edge load (nodes_in load n area) (sets_in n area)) (sym (first-at i a)) (sym (first-at q (omega arith))))

  pub can_find-row : CanFindRow order degrees
  can_find-row = record { node = λ q b. omega (arith, node q b, few l.checked, l.degrees_long) }

  pub can_find-cell : (i : ℕ) → i < length order → CanFindCell area n (at order i) order
  can_find-cell i b = record {
    node = λ q c. omega (arith, node q c, few l.checked);
    row = omega (arith, node i b, few l.checked);
    square = omega (arith, room l.checked);
  }

  -- past the last edge
  pub past : {k : ℕ} → edges_before order degrees (length order) ≤ k → of_listed None ≡ kth (edges load (place_in load n area)) k
  unfolding decode
  past {k} b =
      sym (edge_past_nodes (order_of l.checked) (placing l.checked) sorted k (omega (arith, b, rows (length order) (omega arith), ap (in_rows load (nodes_in load n area) (sets_in n area) first) first_long)))

  module _ {k : ℕ} {at_row : Row} (f : RowFound order degrees k at_row) where
    abbrev i : ℕ
    i = at_row.at

    -- the row has more than `rest` edges
    pub cell-there : cells_before area n (at order i) order (length order) ≤ at_row.rest → ⊥
    cell-there none =
        omega (arith, none, f.fits, degree i f.inside, row i (length order) f.inside (omega arith), ap (in_row load (nodes_in load n area) (sets_in n area) first i) first_long)

    module _ {j : ℕ} (g : CellFound area n (at order i) order at_row.rest j) where
      pub can_read : CanReadEdge area n (at order i) (at order j)
      can_read = record {
        source = omega (arith, node i f.inside, few l.checked);
        target = omega (arith, node j g.inside, few l.checked);
        room = room l.checked;
      }

      pub found : {e : declared.Edge} → EdgeRead area n (at order i) (at order j) e → of_listed (Some e) ≡ kth (edges load (place_in load n area)) k
      unfolding decode
      found {e} r = ap answer.edge same ∙ sym there ∙ ap (kth (edges load (place_in load n area))) place
        where
          place : in_rows load (nodes_in load n area) (sets_in n area) first i + in_row load (nodes_in load n area) (sets_in n area) first i j ≡ k
          place = omega (arith, rows i (omega (arith, f.inside)), row i j f.inside (omega (arith, g.inside)), f.sum, g.before)

          edge-there : node_edge load (nodes_in load n area) (sets_in n area) (at first i) (at first j) ≡ true
          edge-there =
              ap₂ (node_edge load (nodes_in load n area) (sets_in n area)) (first-at i f.inside) (first-at j g.inside)
              ∙ sym (cell-edge l.checked (at order i) (at order j) can_read.source can_read.target)
              ∙ ap not (ne_eqb _ 0 g.edge)

          same : ◌≡◌ {A = Edge} (record { from = number e.from; to = number e.to; multiplicity = e.multiplicity })
              (record { from = at (sets_in n area) (at first i); to = at (sets_in n area) (at first j); multiplicity = node_mult load (nodes_in load n area) (sets_in n area) (at first i) (at first j) })
          same =
              rw (first-at i f.inside, first-at j g.inside, ← set_at l.checked (at order i) (omega (arith, node i f.inside, long l.checked)), ← set_at l.checked (at order j) (omega (arith, node j g.inside, long l.checked)), ← cell-mult l.checked (at order i) (at order j) can_read.source can_read.target, r.from, r.to, r.multiplicity)
              refl

          there : kth (edges load (place_in load n area)) (in_rows load (nodes_in load n area) (sets_in n area) first i + in_row load (nodes_in load n area) (sets_in n area) first i j)
              ≡ answer.edge (record { from = at (sets_in n area) (at first i); to = at (sets_in n area) (at first j); multiplicity = node_mult load (nodes_in load n area) (sets_in n area) (at first i) (at first j) })
          there = edge-at-nodes (order_of l.checked) (placing l.checked) sorted i j (omega (arith, first_long, f.inside)) (omega (arith, first_long, g.inside)) edge-there
