-- What the methods of the search ask and show. Assumes nothing.
use Rattle.std.specs.Prelude.{ℕ, ◌+◌, ◌-◌, ◌^◌, ◌<◌, ◌≤◌, ◌≡◌, Bool, true, false, List, get_or, length, set}
use Rattle.graphs.specs.Lists.{below}
use Rattle.graphs.specs.Walk.{cyclic}
use Rattle.graph_neighbours.specs.declared.Neighbours.{Neighbours}
use Rattle.graph_neighbours.specs.Followed.{followed}
use Rattle.graph_neighbours.specs.Lists.{deg, nb, edge, Graph}
use Rattle.graph_colours.specs.declared.State.{State}
use Rattle.graph_colours.specs.declared.State.TheVariants.{White, Gray, Black}
use Rattle.graph_colours.specs.States.{code}
use Rattle.graph_colours.specs.Colours.{colour_of, view, Step, Run}
use Rattle.graph_depth_first.specs.declared.Progress.{Progress}
use Rattle.graph_depth_first.specs.Lists.{Lists, Long}
use Rattle.graph_depth_first.specs.Order.{Ordered}
use Rattle.graph_depth_first.specs.Search.{Search, Falls, size}

abbrev pub at : List ℕ → ℕ → ℕ
at l x = get_or l x 0

abbrev pub state_at : List State → ℕ → State
state_at l x = get_or l x White

pub record CanDiscover (s : Lists) (p : Progress) (y : ℕ) : Type 0 where
  pub cell : y < length s.states
  pub white : state_at s.states y ≡ White
  pub room : p.height < length s.stack

-- y turns gray and goes on the stack
pub record Discovered (s : Lists) (p : Progress) (y : ℕ) (s' : Lists) (p' : Progress) : Type 0 where
  pub turned : s' ≡ record { states = set s.states y Gray; cursors = s.cursors; stack = set s.stack p.height y; order = s.order; met = s.met }
  pub after : p' ≡ record { height = p.height + 1; finished = p.finished }

pub record CanFinish (s : Lists) (p : Progress) (t : ℕ) : Type 0 where
  pub cell : t < length s.states
  pub gray : state_at s.states t ≡ Gray
  pub some : 0 < p.height
  pub room : p.finished < length s.order

-- t turns black
pub record Finished (s : Lists) (p : Progress) (t : ℕ) (s' : Lists) (p' : Progress) : Type 0 where
  pub turned : s' ≡ record { states = set s.states t Black; cursors = s.cursors; stack = s.stack; order = set s.order p.finished t; met = s.met }
  pub after : p' ≡ record { height = p.height - 1; finished = p.finished + 1 }

pub record CanVisit (s : Lists) (p : Progress) (t y : ℕ) : Type 0 where
  pub cell : y < length s.states
  pub next : t < length s.cursors
  pub short : at s.cursors t < 2 ^ 31
  pub room : state_at s.states y ≡ White → p.height < length s.stack

-- t's next neighbour y, by its state
pub record Visited (s : Lists) (p : Progress) (t y : ℕ) (s' : Lists) (p' : Progress) : Type 0 where
  -- it is discovered
  pub white : state_at s.states y ≡ White → Discovered s p y s' p'
  -- a closed walk is met
  pub gray : state_at s.states y ≡ Gray → (s' ≡ record { states = s.states; cursors = set s.cursors t (at s.cursors t + 1); stack = s.stack; order = s.order; met = true }) × (p' ≡ p)
  -- it is passed by
  pub black : state_at s.states y ≡ Black → (s' ≡ record { states = s.states; cursors = set s.cursors t (at s.cursors t + 1); stack = s.stack; order = s.order; met = s.met }) × (p' ≡ p)

-- The lists are long enough, and hold the state of a search over n nodes; `met` tells whether a gray neighbour was met. A node's number is 0 while it is white,
-- 1 while it is gray, and k + 2 when it is black and was the k-th to finish; its low is how many nodes had finished when it was discovered.
pub record Ready (graph : Neighbours) (n : ℕ) (s : Lists) (p : Progress) : Type 0 where
  pub number : ℕ → ℕ
  pub low : ℕ → ℕ
  pub graph_in : Graph graph.starts.now (followed graph) n
  pub colours : n ≤ length s.states
  pub passed : n ≤ length s.cursors
  pub places : n ≤ length s.stack
  pub orders : n ≤ length s.order
  pub small : n < 2 ^ 31
  pub states : (x : ℕ) → x < n → state_at s.states x ≡ colour_of (number x)
  pub state : Search (edge graph.starts.now (followed graph) n) n (deg graph.starts.now) (nb graph.starts.now (followed graph)) number (at s.cursors) (at s.stack) low (at s.order) p.height p.finished
  pub falls : s.met ≡ false → Falls (edge graph.starts.now (followed graph) n) n (nb graph.starts.now (followed graph)) number (at s.cursors)
  pub closes : s.met ≡ true → cyclic (edge graph.starts.now (followed graph) n) (below n) ≡ true

-- a node that was discovered is not forgotten
pub record Kept (n : ℕ) (states states' : List State) : Type 0 where
  pub known : (x : ℕ) → x < n → (state_at states x ≡ White → ⊥) → state_at states' x ≡ White → ⊥

-- a number that each step makes less
abbrev pub left : Neighbours → ℕ → Lists → Progress → ℕ
left graph n s p = size n (deg graph.starts.now) (λ x. code (state_at s.states x)) (at s.cursors) p.height

pub record Stepped (graph : Neighbours) (n : ℕ) (s : Lists) (p : Progress) (s' : Lists) (p' : Progress) : Type 0 where
  pub kept : Kept n s.states s'.states
  pub ready : Ready graph n s' p'
  pub moved : Step n (deg graph.starts.now) (nb graph.starts.now (followed graph)) (view s.states s.cursors s.stack p.height) (view s'.states s'.cursors s'.stack p'.height)
  pub less : left graph n s' p' < left graph n s p
  pub long : Long s s'

-- no node is gray, and root is a node
pub record CanSearch (graph : Neighbours) (n root : ℕ) (s : Lists) (p : Progress) : Type 0 where
  pub ready : Ready graph n s p
  pub empty : p.height ≡ 0
  pub node : root < n

-- the whole search from one node
pub record Searched (graph : Neighbours) (n root : ℕ) (s s' : Lists) (p' : Progress) : Type 0 where
  pub kept : Kept n s.states s'.states
  pub known : state_at s'.states root ≡ White → ⊥
  pub ran : Run n (deg graph.starts.now) (nb graph.starts.now (followed graph)) (view s.states s.cursors s.stack 0) (view s'.states s'.cursors s'.stack 0)
  pub ready : Ready graph n s' p'
  pub empty : p'.height ≡ 0

-- with lists of N numbers
pub record CanWalk (starts list : List ℕ) (n N : ℕ) : Type 0 where
  pub graph : Graph starts list n
  pub nodes : n ≤ N
  pub small : n < 2 ^ 31

-- in lists that are lent
pub record CanWalkIn (starts list : List ℕ) (n : ℕ) (states : List State) (cursors stack order : List ℕ) : Type 0 where
  pub graph : Graph starts list n
  pub colours : n ≤ length states
  pub passed : n ≤ length cursors
  pub places : n ≤ length stack
  pub orders : n ≤ length order
  pub small : n < 2 ^ 31

-- the answer tells whether there is a closed walk, and `order` is the post-order
pub record Walked (e : ℕ → ℕ → Bool) (n : ℕ) (order : List ℕ) (met : Bool) : Type 0 where
  pub answer : met ≡ cyclic e (below n)
  pub ordered : Ordered e n (at order)
