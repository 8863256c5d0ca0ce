-- What a walk reads: neighbour lists, rows of flags, or rows of flags whose nodes stand for their ends. Assumes nothing.
use Rattle.std.specs.Prelude.{ℕ, Bool, List}
use Rattle.graph_neighbours.specs.Lists.{deg, nb, edge}
use Rattle.graph_walks.specs.Closed.{flag_edge}
use Rattle.graph_walks.specs.Places.{square, reached}
use Rattle.graph_walks.specs.Spread.{Offers, Scanned, Done, every, wide, itself}
use Rattle.graph_walks.specs.Ends.{end_at, end_edge, end_place}

-- edges between nodes below a number: at node x it looks at `places x` places, and where the i-th holds, neighbour x i is a neighbour
pub record Reads : Type 0 where
  pub nodes : ℕ
  pub joined : ℕ → ℕ → Bool
  pub places : ℕ → ℕ
  pub neighbour : ℕ → ℕ → ℕ
  pub holds : ℕ → ℕ → Bool

abbrev pub in_lists : List ℕ → List ℕ → ℕ → Reads
in_lists starts list n = record { nodes = n; joined = edge starts list n; places = deg starts; neighbour = nb starts list; holds = every }

abbrev pub in_rows : List ℕ → ℕ → ℕ → Reads
in_rows l c n = record { nodes = n; joined = flag_edge l c n; places = wide n; neighbour = itself; holds = flag_edge l c n }

abbrev pub in_end_rows : List ℕ → ℕ → ℕ → List ℕ → ℕ → ℕ → Reads
in_end_rows l c n ends s t =
    record { nodes = n; joined = end_edge l c n ends s t; places = square n; neighbour = reached (end_at ends) n; holds = end_place l c n ends s t }

-- its edges are those that its places offer
abbrev pub Offered : Reads → Type 0
Offered r = Offers r.joined r.nodes r.places r.neighbour r.holds

-- t's places before the j-th are looked at
abbrev pub LookedTo : Reads → ℕ → List ℕ → List ℕ → ℕ → ℕ → ℕ → List ℕ → List ℕ → ℕ → Type 0
LookedTo r = Scanned r.joined r.nodes r.places r.neighbour r.holds

-- all nodes above the height sp of the stack are done
abbrev pub Walked : Reads → ℕ → List ℕ → List ℕ → ℕ → List ℕ → List ℕ → ℕ → Type 0
Walked r = Done r.joined r.nodes r.places r.neighbour r.holds
