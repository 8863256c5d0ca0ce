-- The matrix against the slots: what is asked, and what is shown. Assumes nothing.
use Rattle.std.specs.Prelude.{◌≡◌, Bool, true, List, ℕ, ◌*◌, ◌≤◌, ◌<◌, length, get_or}
use Rattle.graphs.specs.Bools.{Decides}
use Rattle.graphs.specs.Count.{count}
use Rattle.graphs.specs.Slots.{slot_edge}
use Rattle.graph_slots.specs.Asked.{Slots, ListRoom, SlotLists}
use Rattle.move_edges.specs.Matrix.{Holds}

-- m slots between n nodes, and room for them
pub record CanMatch (area : List ℕ) (n m : ℕ) (sources targets heads list row degrees : List ℕ) : Type 0 where
  pub square : n * n ≤ length area
  pub slots : Slots sources targets m n
  pub lists : ListRoom m n heads list
  pub row_long : n ≤ length row
  pub degrees_long : n ≤ length degrees

-- the answer; the neighbour lists are those of the slots; and where the answer is yes, how many edges start at each node
pub record Matched (area : List ℕ) (n m : ℕ) (sources targets heads list degrees : List ℕ) (r : Bool) : Type 0 where
  pub says : Decides (Holds area n sources targets m) r
  pub lists : SlotLists sources targets m n heads list
  pub degree_at : r ≡ true → (x : ℕ) → x < n → get_or degrees x 0 ≡ count (slot_edge sources targets m x) n
