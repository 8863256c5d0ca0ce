-- The lists of a search, as values. Assumes nothing.
use Rattle.std.specs.Prelude.{ℕ, ◌≡◌, Bool, List, length}
use Rattle.graph_colours.specs.declared.State.{State}

-- each node's state, how many of its edges are gone through, the stack, the nodes in the order in which they finished, and whether a gray neighbour was met
pub record Lists : Type 0 where
  pub states : List State
  pub cursors : List ℕ
  pub stack : List ℕ
  pub order : List ℕ
  pub met : Bool

-- each list is as long as it was
pub record Long (s s' : Lists) : Type 0 where
  pub states : length s'.states ≡ length s.states
  pub cursors : length s'.cursors ≡ length s.cursors
  pub stack : length s'.stack ≡ length s.stack
  pub order : length s'.order ≡ length s.order
