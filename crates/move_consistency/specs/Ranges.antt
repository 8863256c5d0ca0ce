-- What the tests on the ranges of an area's numbers decide. Assumes nothing.
use Rattle.std.specs.Prelude.{◌≡◌, Bool, true, List, ℕ, ◌+◌, ◌*◌, ◌^◌, ◌≤◌, ◌<◌, length, get_or}
use Rattle.graphs.specs.Bools.{Decides}
use Rattle.entry_set.specs.Lanes.{lanes}
use Rattle.move_ledger.specs.Graph.{Load}
use Rattle.set_order.specs.Order.{lane_set, Ordered}
use Rattle.move_area.specs.Bodies.{atom_at}
use Rattle.move_area.specs.Checked.{Ranged}

-- each of `registered` sets from `from` on has no bit at or above e
abbrev pub SetsBelow : List ℕ → ℕ → ℕ → ℕ → ℕ → Type 0
SetsBelow area from stride registered e = (x : ℕ) → x < registered → lanes area (from + x) stride < 2 ^ e

-- the area has its header and lanes, and there is room to sort the nodes
pub record CanRange (a n : ℕ) (area order spare : List ℕ) : Type 0 where
  pub nodes : n ≤ 1024
  pub room : atom_at n + a ≤ length area
  pub order_long : n ≤ length order
  pub spare_long : n ≤ length spare

-- the registered nodes stand in `order` by rising sets
abbrev pub SetOrder : ℕ → List ℕ → List ℕ → Type 0
SetOrder n area order = Ordered (lane_set area (n * n + 24) n) order (get_or area (n * n) 0)

-- the answer, and where it is yes, the order
pub record RangeTold (load : Load) (n : ℕ) (area order : List ℕ) (r : Bool) : Type 0 where
  pub says : Decides (Ranged load n area) r
  pub ordered : r ≡ true → SetOrder n area order
