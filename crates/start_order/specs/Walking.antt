-- What each call of the walk to the wanted nodes asks, and what they come to. Assumes nothing.
use Rattle.std.specs.Prelude.{ℕ, ◌+◌, ◌≤◌, ◌<◌, ◌≡◌, refl, true, not, List, eqb, length, get_or}
use Rattle.std.proofs.Common.{arith, sym, ap, subst, ◌∙◌, ltb-true, lt-ltb, ne_eqb}
use Rattle.std.proofs.lemmas.Bool.{eqb-false, not-true}
use Rattle.graphs.specs.Bools.{and_left, and_right, and_both}
use Rattle.graphs.specs.Lists.{has, has-at}
use Rattle.graph_neighbours.specs.Lists.{edge, deg, nb}
use Rattle.graph_neighbours.specs.Steps.{CanGroup, Grouped}
use Rattle.graph_walks.specs.Spread.{every, CanSpread, Done}
use Rattle.graph_slots.specs.Asked.{Slots, SlotLists}
use Rattle.graph_slots.specs.Listing.{group_can, slot-lists}
use Rattle.entry_set.specs.Lanes.{lanes}
use Rattle.move_ledger.specs.Graph.{Load, at, members}
use Rattle.move_ledger.specs.GraphLaws.{occupied-by, occupy}
use Rattle.move_ledger.specs.NodeWalks.{ends-nodes}
use Rattle.move_area.specs.Area.{sets_in}
use Rattle.move_area.specs.Bodies.{lane_at}
use Rattle.move_area.specs.Checked.{nodes_in, sets-at, sets-length}
use Rattle.move_questions.specs.Answers.{place_in, Checked}
use Rattle.move_slots.specs.Filled.{CanFillOwn, Filled}
use Rattle.move_slots.specs.SlotLaws.{slotted_edge, slotted_ends}
use Rattle.move_order.specs.Order.{holds}
use Rattle.start_order.specs.declared.nodes.Nodes.{Nodes}
use Rattle.start_order.specs.Nodes.{order_of, placing, long, few, atoms, place_at}
use Rattle.start_order.specs.Bits.{picks}
use Rattle.start_order.specs.Roots.{Roots, Blank}
use Rattle.start_order.specs.Marked.{Picks, Marked, all-marked}
use Rattle.start_order.specs.Walked.{CanMark, MarkLists}

-- the nodes that have an atom and the bit
module _ {load : Load} {n : ℕ} {area : List ℕ} {r : ℕ} (h : Checked load n area r) (b : ℕ) where
  set_is : (x : ℕ) → x < r → holds b (at (sets_in n area) x) ≡ holds b (lanes area (lane_at n 0 + x) n)
  set_is x c = ap (holds b) (sets-at n area x (omega (arith, sets-length n area, long h)))

  count_is : (x : ℕ) → x < r → get_or area (lane_at n 8 + x) 0 ≡ members load (nodes_in load n area) x
  count_is x c = h.worked.counts x (omega (arith, few h))

  pub picks_of : Picks load n area r b (picks area n b)
  picks_of = record {
    chunk = λ x c q.
        let d : get_or area (lane_at n 8 + x) 0 ≡ 0 → ⊥ = eqb-false (get_or area (lane_at n 8 + x) 0) 0 (not-true _ (and_left (not (eqb (get_or area (lane_at n 8 + x) 0) 0)) _ q)) in
        let i = occupied-by load (nodes_in load n area) x (lt-ltb 0 (members load (nodes_in load n area) x) (omega (arith, count_is x c, d))) in (
          subst (λ X. has X (place_in load n area) ≡ true) (place_at h i.0 i.1 ∙ ap (at (sets_in n area)) i.2) (has-at (place_in load n area) i.0 (omega (arith, i.1, atoms h))),
          set_is x c ∙ and_right (not (eqb (get_or area (lane_at n 8 + x) 0) 0)) _ q,
        );
    taken = λ i c q.
        let x : ℕ = at (nodes_in load n area) i in
        let l : x < r = omega (arith, (placing h).inside i c, long h) in
        and_both (not (eqb (get_or area (lane_at n 8 + x) 0) 0)) _
        (ap not (ne_eqb (get_or area (lane_at n 8 + x) 0) 0 (omega (arith, count_is x l, ltb-true 0 (members load (nodes_in load n area) x) (occupy load (nodes_in load n area) x i c refl)))))
        (sym (set_is x l) ∙ q);
  }

module _ {load : Load} {g : Nodes} {b : ℕ} {marks stack sources targets heads list : List ℕ}
    (can : CanMark load g b marks) (room : MarkLists g.area.n (load.D + load.E) stack sources targets heads list) where
  pub mark_fill : CanFillOwn load g.area.n g.area.numbers.now stack sources targets
  mark_fill = record {
    loadable = can.checked.loadable;
    few = can.checked.ranged.few;
    inside = can.checked.ranged.nodes;
    counts_long = room.stack_long;
    sources_long = room.sources_long;
    targets_long = room.targets_long;
  }

  pub mark_sum : load.D + load.E ≤ 8448
  mark_sum = omega (arith, can.checked.loadable.sizes.entries, can.checked.loadable.sizes.bits)

  module _ {counts s t : List ℕ} (f : Filled load g.area.n (nodes_in load g.area.n g.area.numbers.now) (sets_in g.area.n g.area.numbers.now) counts s t) where
    mark_slots : length s ≡ length sources → length t ≡ length targets → Slots s t (load.D + load.E) g.area.n
    mark_slots p q = record {
      slots = mark_sum;
      sources = omega (arith, room.sources_long);
      targets = omega (arith, room.targets_long);
      ends = slotted_ends f.slots (ends-nodes (order_of can.checked) (placing can.checked) g.area.n (omega (arith, long can.checked, few can.checked)) (omega (arith, can.checked.loadable.sizes.wide)));
      nodes = can.checked.loadable.sizes.sets;
    }

    module _ (p : length s ≡ length sources) (q : length t ≡ length targets) where
      pub mark_group : CanGroup s t (load.D + load.E) g.area.n heads list
      mark_group = group_can (mark_slots p q) room.lists

      mark_lists : {heads' list' : List ℕ} → Grouped s t (load.D + load.E) g.area.n heads heads' list list' → SlotLists s t (load.D + load.E) g.area.n heads' list'
      mark_lists grouped = slot-lists (mark_slots p q) room.lists grouped

      module _ {heads' list' : List ℕ} (grouped : Grouped s t (load.D + load.E) g.area.n heads heads' list list')
          {marks' stack' : List ℕ} {h : ℕ} (roots : Roots (picks g.area.numbers.now g.area.n b) g.area.n g.registered marks' stack' h) where
        pub mark_spread : CanSpread heads' list' g.area.n 1 marks' stack' h
        mark_spread = record { graph = (mark_lists grouped).graph; ready = roots.ready }

        pub mark_done : {marks'' stack'' : List ℕ} → Done (edge heads' list' g.area.n) g.area.n (deg heads') (nb heads' list') every 1 marks' stack' h marks'' stack'' 0 → Marked load g.area.n g.area.numbers.now g.registered b marks''
        mark_done d = all-marked can.checked (picks_of can.checked b) (mark_lists grouped).graph ((mark_lists grouped).same ∙ slotted_edge f.slots) roots d

  pub mark_blank : {counts : List ℕ} → length counts ≡ length stack → Blank g.area.n marks counts
  mark_blank e = record { cells = can.long; room = omega (arith, room.stack_long); clear = can.clear }
