-- What the check of a whole area asks, and what it leaves to the calls after it. Assumes nothing.
use Rattle.std.specs.Prelude.{◌≡◌, Bool, true, List, ℕ, ◌+◌, ◌*◌, ◌^◌, ◌≤◌, ◌<◌, length, get_or}
use Rattle.graphs.specs.Bools.{Decides}
use Rattle.graphs.specs.Count.{count}
use Rattle.graph_slots.specs.Asked.{SlotLists}
use Rattle.move_ledger.specs.Graph.{Load}
use Rattle.move_ledger.specs.LoadLaws.{Loadable}
use Rattle.move_ledger.specs.Nodes.{node_edge}
use Rattle.move_area.specs.Area.{sets_in, consistent}
use Rattle.move_area.specs.Checked.{nodes_in, Ranged, Worked}
use Rattle.move_consistency.specs.Ranges.{SetOrder}

-- the header and the node lanes are there
pub record Lanes (area : List ℕ) (n : ℕ) : Type 0 where
  pub nodes : n ≤ 1024
  pub room : n * n + 24 + 24 * n ≤ length area

-- and a list with a number for each node
pub record CanLane (area : List ℕ) (n : ℕ) (list : List ℕ) : Type 0 where
  pub lanes : Lanes area n
  pub long : n ≤ length list

-- the slots' graph is grouped by source
pub record CanFlag (area : List ℕ) (n m : ℕ) (sources targets heads list : List ℕ) : Type 0 where
  pub lanes : Lanes area n
  pub lists : SlotLists sources targets m n heads list

-- the load passes the rows 1 to 6, and the area's numbers are in range
pub record CanWorkOn (load : Load) (n : ℕ) (area degrees : List ℕ) : Type 0 where
  pub loadable : Loadable load n true (length area)
  pub ranged : Ranged load n area
  pub degrees_long : n ≤ length degrees

-- room for a row of n nodes, for their heads, and for m slots and their neighbour lists
pub record SlotRoom (n m nodes heads slots : ℕ) : Type 0 where
  pub row_long : n ≤ nodes
  pub rows : n < heads
  pub slots_long : m ≤ slots
  pub nodes_short : nodes < 2 ^ 31
  pub heads_short : heads < 2 ^ 31
  pub slots_short : slots < 2 ^ 31

pub record CanWork (load : Load) (n : ℕ) (area degrees : List ℕ) (nodes heads slots : ℕ) : Type 0 where
  pub checked : CanWorkOn load n area degrees
  pub room : SlotRoom n (load.D + load.E) nodes heads slots

-- whether the rest is what is worked out; and where the answer is yes, how many edges start at each node
pub record WorkTold (load : Load) (n : ℕ) (area degrees : List ℕ) (r : Bool) : Type 0 where
  pub says : Decides (Worked load n area) r
  pub degree_at : r ≡ true → (x : ℕ) → x < n → get_or degrees x 0 ≡ count (node_edge load (nodes_in load n area) (sets_in n area) x) n

-- no row from 1 to 6 fits, and the lists are long enough
pub record CanCheck (load : Load) (n : ℕ) (area degrees order : List ℕ) : Type 0 where
  pub loadable : Loadable load n true (length area)
  pub degrees_long : n ≤ length degrees
  pub order_long : n ≤ length order

-- what a consistent area and the lists worked out from it give to the call: how many edges start at each node, and the registered nodes by rising
-- sets
pub record CheckedArea (load : Load) (n : ℕ) (area degrees order : List ℕ) : Type 0 where
  pub loadable : Loadable load n true (length area)
  pub ranged : Ranged load n area
  pub worked : Worked load n area
  pub degree_at : (x : ℕ) → x < n → get_or degrees x 0 ≡ count (node_edge load (nodes_in load n area) (sets_in n area) x) n
  pub ordered : SetOrder n area order

-- row 9's answer
pub record Told (load : Load) (n : ℕ) (area degrees order : List ℕ) (r : Bool) : Type 0 where
  pub says : r ≡ consistent load n area
  pub ready : r ≡ true → CheckedArea load n area degrees order
