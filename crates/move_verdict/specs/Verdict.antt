-- The verdict on the graph of an area's placement: what is asked for it, and what it is. Assumes nothing.
use Rattle.std.specs.Prelude.{ℕ, ◌+◌, ◌^◌, ◌≤◌, ◌<◌, Bool, true, List, length}
use Rattle.graphs.specs.Walk.{cyclic}
use Rattle.move_ledger.specs.Graph.{Load, edge}
use Rattle.move_ledger.specs.LoadLaws.{Loadable}
use Rattle.move_area.specs.Area.{decode}
use Rattle.move_area.specs.Checked.{Ranged}

-- some chunk of the area's placement is on a closed walk
abbrev pub verdict : Load → ℕ → List ℕ → Bool
verdict load n area = cyclic (edge load (decode load n area).ledger.place) (decode load n area).ledger.place

-- the load passes the rows 1 to 6, and the area's nodes and sets are in range
pub record CanSearch (load : Load) (n : ℕ) (area : List ℕ) : Type 0 where
  pub loadable : Loadable load n true (length area)
  pub ranged : Ranged load n area

-- room for a colour of each of n nodes, for their heads, and for the slots and their neighbour lists
pub record SearchRoom (load : Load) (n nodes heads slots : ℕ) : Type 0 where
  pub colours : n ≤ nodes
  pub rows : n < heads
  pub slots_long : load.D + load.E ≤ slots
  pub nodes_short : nodes < 2 ^ 31
  pub heads_short : heads < 2 ^ 31
  pub slots_short : slots < 2 ^ 31
