-- What the steps of a loading ask and show. Assumes nothing.
use Rattle.std.specs.Prelude.{◌≡◌, Bool, true, false, List, ℕ, ◌+◌, ◌*◌, ◌^◌, ◌≤◌, ◌<◌, length, set}
use Rattle.graphs.specs.Count.{ind}
use Rattle.graphs.specs.Lists.{below}
use Rattle.graphs.specs.Tab.{tab}
use Rattle.graphs.specs.Walk.{cyclic, only}
use Rattle.layout.specs.Patch.{patch, part}
use Rattle.move_edges.specs.Matrix.{matrix}
use Rattle.move_ledger.specs.Graph.{Load}
use Rattle.move_ledger.specs.LoadLaws.{Loadable-sets}
use Rattle.move_ledger.specs.Totals.{filled_cells}
use Rattle.move_area.specs.Bodies.{lane_at, atom_at}
use Rattle.move_area.specs.Area.{sets_in}
use Rattle.move_area.specs.Checked.{nodes_in}
use Rattle.move_slots.specs.Counted.{slot_count}
use Rattle.move_slots.specs.Filled.{Filled}
use Rattle.graph_slots.specs.Asked.{Slots, ListRoom}

-- the slots and the atom counts of the placement that l names are worked out; l' is l with the counts, the edges and how many they are
pub record GraphWritten (load : Load) (n : ℕ) (l counts sources targets : List ℕ) (m : ℕ) (l' : List ℕ) : Type 0 where
  pub filled : Filled load n (nodes_in load n l) (sets_in n l) counts sources targets
  pub many : m ≡ slot_count n load.D load.E
  pub area : l' ≡ set (patch 0 (matrix sources targets n m) (patch (lane_at n 8) (part 0 n counts) l)) (n * n + 4) (filled_cells sources targets n m)

-- the component's flags of n nodes
abbrev pub component_lane : (ℕ → ℕ → Bool) → ℕ → List ℕ
component_lane edge n = tab (λ x. ind (only edge (below n) x)) n

-- m slots between n nodes, an area with the lanes, and room to group the slots
pub record CanWriteFlags (area : List ℕ) (n m : ℕ) (sources targets heads list : List ℕ) : Type 0 where
  pub room : atom_at n ≤ length area
  pub slots : Slots sources targets m n
  pub lists : ListRoom m n heads list

-- r tells whether there is a cycle; l' is l with the component where there is one, else with the acyclic flag
pub record FlagsWritten (edge : ℕ → ℕ → Bool) (n : ℕ) (l : List ℕ) (r : Bool) (l' : List ℕ) : Type 0 where
  pub says : r ≡ cyclic edge (below n)
  pub some : r ≡ true → l' ≡ patch (lane_at n 10) (component_lane edge n) l
  pub none : r ≡ false → l' ≡ set l (n * n + 2) 1

-- no row from 1 to 8 fits, and there is room for the heads of n nodes and for D + E slots
pub record CanLoad (load : Load) (n : ℕ) (sets area : List ℕ) (heads slots : ℕ) : Type 0 where
  pub loadable : Loadable-sets load n sets (length area)
  pub rows : n < heads
  pub slots_long : load.D + load.E ≤ slots
  pub heads_short : heads < 2 ^ 31
  pub slots_short : slots < 2 ^ 31
