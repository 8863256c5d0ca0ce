-- Slots that are grouped by source have the neighbour lists of their graph. Assumes nothing.
use Rattle.std.specs.Prelude.{ℕ, List}
use Rattle.graph_neighbours.specs.Grouped.{group_graph, group_edges}
use Rattle.graph_neighbours.specs.Steps.{CanGroup, Grouped}
use Rattle.graph_slots.specs.Asked.{Slots, ListRoom, SlotLists}

module _ {s t : List ℕ} {m n : ℕ} {l out : List ℕ} (v : Slots s t m n) (r : ListRoom m n l out) where
  pub group_can : CanGroup s t m n l out
  group_can = record { slots = v.slots; keys = v.sources; values = v.targets; rows = r.rows; within = v.ends.source; room = r.room }

  pub slot-lists : {l' out' : List ℕ} → Grouped s t m n l l' out out' → SlotLists s t m n l' out'
  slot-lists g = record { slots = v; graph = group_graph g v.ends r.rows r.room r.short; same = group_edges g v.ends }
