-- The neighbour lists of the slots, and what a walk over them marks. Assumes nothing.
use Rattle.std.specs.Prelude.{ℕ, ◌≡◌, Bool, List, length}
use Rattle.std.proofs.Common.{arith, ap, ◌∙◌}
use Rattle.graphs.specs.Slots.{slot_edge}
use Rattle.graph_neighbours.specs.Grouped.{group_graph, group_edges}
use Rattle.graph_neighbours.specs.Lists.{edge}
use Rattle.graph_neighbours.specs.Steps.{CanGroup, Grouped}
use Rattle.graph_walks.specs.Marks.{marked}
use Rattle.graph_walks.specs.Spread as walks
use Rattle.move_freedom.specs.Reach.{CanReach}

module _ {s t : List ℕ} {m n root : ℕ} {marks : List ℕ} (can : CanReach s t m n root marks) {heads list : List ℕ} (long : length heads ≡ 1026) (wide : length list ≡ 8448) where
  pub reach_group : CanGroup s t m n heads list
  reach_group = record {
    slots = can.slots;
    keys = can.sources;
    values = can.targets;
    rows = omega (arith, can.nodes);
    within = can.ends.source;
    room = omega (arith, can.slots);
  }

  module _ {heads' list' : List ℕ} (g : Grouped s t m n heads heads' list list') where
    pub reach_can : {stack : List ℕ} → length stack ≡ 1025 → walks.CanReach heads' list' n 1 root marks stack
    reach_can {stack} deep = record {
      graph = group_graph g can.ends (omega (arith, can.nodes)) (omega (arith, can.slots)) (omega arith);
      cells = can.cells;
      room = omega (arith, can.nodes);
      start = can.there;
      fresh = λ x l. omega (arith, can.fresh x l);
    }

    pub reach-done : {marks' : List ℕ} → marks' ≡ marked (edge heads' list' n) n 1 root marks → marks' ≡ marked (slot_edge s t m) n 1 root marks
    reach-done e = e ∙ ap (λ (f : ℕ → ℕ → Bool). marked f n 1 root marks) (group_edges g can.ends)
