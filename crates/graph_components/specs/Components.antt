-- The components of a graph, by labels that the second walk gives out against the edges. Assumes nothing.
use Rattle.std.specs.Prelude.{ℕ, ◌^◌, ◌<◌, ◌≤◌, ◌≡◌, Bool, true, ◌||◌, ◌&&◌, List, get_or, length, eqb}
use Rattle.graphs.specs.Lists.{below}
use Rattle.graphs.specs.Walk.{via}
use Rattle.graph_neighbours.specs.Lists.{edge, Graph}
use Rattle.graph_depth_first.specs.Order.{Reach, WalkIn, Ordered}
use Rattle.graph_depth_first.specs.Steps.{at}

-- each edge turned round
abbrev pub turn : (ℕ → ℕ → Bool) → ℕ → ℕ → Bool
turn h x y = h y x

-- x and y are in one component: each reaches the other
unfoldable pub twinned : (ℕ → ℕ → Bool) → ℕ → ℕ → ℕ → Bool
twinned e n x y = eqb x y || (via e (below n) x y && via e (below n) y x)

-- labels are given out falling: a node has the label 0, or one greater than l
pub record CanGather (g q : List ℕ) (n : ℕ) (label stack : List ℕ) (root l : ℕ) : Type 0 where
  pub graph : Graph g q n
  pub cells : n ≤ length label
  pub room : n ≤ length stack
  pub node : root < n
  pub some : 0 < l
  pub new : get_or label root 0 ≡ 0
  pub fresh : (x : ℕ) → x < n → (get_or label x 0 ≡ 0 → ⊥) → l < get_or label x 0

-- the nodes that reach r over nodes with no label have got the label l
pub record Gathered (e : ℕ → ℕ → Bool) (n r l : ℕ) (c c' : ℕ → ℕ) : Type 0 where
  pub old : (x : ℕ) → x < n → (c x ≡ 0 → ⊥) → c' x ≡ c x
  pub into : (x : ℕ) → x < n → c x ≡ 0 → (c' x ≡ 0 → ⊥) → (c' x ≡ l) × WalkIn e (λ v. (v < n) × (c v ≡ 0)) x r
  pub all : (x : ℕ) → x < n → WalkIn e (λ v. (v < n) × (c v ≡ 0)) x r → c' x ≡ l

-- the nodes at places from k on in the post-order o are labelled, by components
pub record Parted (e : ℕ → ℕ → Bool) (n : ℕ) (o c : ℕ → ℕ) (k : ℕ) : Type 0 where
  pub order : Ordered e n o
  pub most : k ≤ n
  pub top : (x : ℕ) → x < n → c x ≤ n
  pub done : (x : ℕ) → x < n → k ≤ order.place x → c x ≡ 0 → ⊥
  pub fresh : (x : ℕ) → x < n → (c x ≡ 0 → ⊥) → k < c x
  pub whole : (x y : ℕ) → x < n → y < n → (c x ≡ 0 → ⊥) → Reach e x y → Reach e y x → c y ≡ c x
  pub right : (x y : ℕ) → x < n → y < n → (c x ≡ 0 → ⊥) → c x ≡ c y → Reach e x y

pub record Parting (g q : List ℕ) (n : ℕ) (order label stack : List ℕ) (k : ℕ) : Type 0 where
  pub graph : Graph g q n
  pub places : n ≤ length order
  pub cells : n ≤ length label
  pub room : n ≤ length stack
  pub small : n < 2 ^ 31
  pub state : Parted (turn (edge g q n)) n (at order) (at label) k

-- the labels are those of the components
pub record Split (e : ℕ → ℕ → Bool) (n : ℕ) (c : ℕ → ℕ) : Type 0 where
  pub some : (x : ℕ) → x < n → c x ≡ 0 → ⊥
  pub most : (x : ℕ) → x < n → c x ≤ n
  pub joined : (x y : ℕ) → x < n → y < n → twinned e n x y ≡ true → c x ≡ c y
  pub parted : (x y : ℕ) → x < n → y < n → c x ≡ c y → twinned e n x y ≡ true

pub record CanWalkBack (g q : List ℕ) (n : ℕ) (order label stack : List ℕ) : Type 0 where
  pub graph : Graph g q n
  pub places : n ≤ length order
  pub cells : n ≤ length label
  pub room : n ≤ length stack
  pub small : n < 2 ^ 31
  pub ordered : Ordered (turn (edge g q n)) n (at order)
