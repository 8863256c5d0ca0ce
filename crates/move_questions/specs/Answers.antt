-- What the check of an area leaves to the questions, and what their answers say. Assumes nothing.
use Rattle.std.specs.Prelude.{ℕ, ◌+◌, ◌*◌, ◌≤◌, ◌<◌, ◌≡◌, true, List, Option, Some, None, length, get_or}
use Rattle.graphs.specs.Count.{count}
use Rattle.entry_set.specs.Sets.{number}
use Rattle.move_ledger.specs.Graph.{Load}
use Rattle.move_ledger.specs.LoadLaws.{Loadable}
use Rattle.move_ledger.specs.Answer.{Answer}
use Rattle.move_ledger.specs.Answer as answer
use Rattle.move_ledger.specs.Nodes.{node_edge}
use Rattle.move_area.specs.Area.{sets_in, decode}
use Rattle.move_area.specs.Checked.{nodes_in, Ranged, Worked}
use Rattle.set_order.specs.Order.{lane_set, Ordered}
use Rattle.move_questions.specs.declared.Edge.{Edge}

-- each atom's set, from the area
abbrev pub place_in : Load → ℕ → List ℕ → List ℕ
place_in load n area = (decode load n area).ledger.place

-- where the lanes of the sets start
abbrev pub set_lane : ℕ → ℕ
set_lane n = n * n + 24

-- where the node of atom i stands
abbrev pub atom_node : ℕ → ℕ → ℕ
atom_node n i = n * n + 24 + 24 * n + i

-- the set of atom i
abbrev pub set_of : List ℕ → ℕ → ℕ → ℕ
set_of area n i = lane_set area (set_lane n) n (get_or area (atom_node n i) 0)

-- what is read for it
pub record CanReadSet (area : List ℕ) (n i : ℕ) : Type 0 where
  pub room : atom_node n i < length area
  pub node : get_or area (atom_node n i) 0 < n

-- the load passes the rows 1 to 6, and the area holds what is worked out from its own placement; `registered` sets are registered
pub record Checked (load : Load) (n : ℕ) (area : List ℕ) (registered : ℕ) : Type 0 where
  pub loadable : Loadable load n true (length area)
  pub ranged : Ranged load n area
  pub worked : Worked load n area
  pub sets : registered ≡ get_or area (n * n) 0

-- and the nodes are listed by rising sets, with each node's number of edges
pub record Listable (load : Load) (n : ℕ) (area : List ℕ) (registered : ℕ) (order degrees : List ℕ) : Type 0 where
  pub checked : Checked load n area registered
  pub order_long : registered ≤ length order
  pub degrees_long : n ≤ length degrees
  pub ordered : Ordered (lane_set area (set_lane n) n) order registered
  pub degree_at : (x : ℕ) → x < n → get_or degrees x 0 ≡ count (node_edge load (nodes_in load n area) (sets_in n area) x) n

-- what is read of the edge from node x to node y
pub record CanReadEdge (area : List ℕ) (n x y : ℕ) : Type 0 where
  pub source : x < n
  pub target : y < n
  pub room : n * n + 24 + 24 * n ≤ length area

pub record EdgeRead (area : List ℕ) (n x y : ℕ) (e : Edge) : Type 0 where
  pub from : number e.from ≡ lane_set area (set_lane n) n x
  pub to : number e.to ≡ lane_set area (set_lane n) n y
  pub multiplicity : e.multiplicity ≡ get_or area (x * n + y) 0

-- the answer of `edge_at`
abbrev pub of_listed : Option Edge → Answer
of_listed (Some e) = answer.edge (record { from = number e.from; to = number e.to; multiplicity = e.multiplicity })
of_listed None = answer.none
