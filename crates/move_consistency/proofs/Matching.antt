-- What each call of `edges_hold` asks, and what they come to. Assumes nothing.
use mathlib.Core.Bool.{Bool}
use mathlib.Core.List.{List}
use Prim.Native.Nat.{ℕ}
use native.Mathlib.Omega.{arith}
use Rattle.graph_neighbours.specs.Steps.{Grouped}
use Rattle.graph_slots.specs.Listing.{slot-lists}
use Rattle.move_edges.specs.Rows.{CanCheck, Checked, checked-holds, checked-edges}
use Rattle.move_consistency.specs.Matched.{CanMatch, Matched}

module _ {area : List ℕ} {n m : ℕ} {sources targets heads list row degrees : List ℕ} (can : CanMatch area n m sources targets heads list row degrees) {heads' list' : List ℕ} (g : Grouped sources targets m n heads heads' list list') where
  pub match_check : CanCheck area n heads' list' row degrees
  match_check = record {
    square = can.square;
    rows = can.row_long;
    answers = can.degrees_long;
    nodes = omega (arith, can.slots.nodes);
    graph = (slot-lists can.slots can.lists g).graph;
  }

  pub match_done : {degrees' : List ℕ} {r : Bool} → Checked area n heads' list' degrees' r → Matched area n m sources targets heads' list' degrees' r
  match_done c = record { says = checked-holds g c can.slots.ends; lists = slot-lists can.slots can.lists g; degree_at = λ q. checked-edges g c q }
