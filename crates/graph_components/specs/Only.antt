-- The flags of the only component with a closed walk. Assumes nothing.
use Rattle.std.specs.Prelude.{ℕ, ◌^◌, ◌<◌, ◌≤◌, ◌≡◌, ◌⊎◌, Bool, false, cond, List, get_or, length, eqb, ltb}
use Rattle.graphs.specs.Count.{ind}
use Rattle.graphs.specs.Lists.{below}
use Rattle.graphs.specs.Tab.{tab}
use Rattle.graphs.specs.Walk.{only}
use Rattle.graph_neighbours.specs.Lists.{deg, nb, edge, Graph}
use Rattle.graph_depth_first.specs.Order.{Ordered}
use Rattle.graph_depth_first.specs.Steps.{at}
use Rattle.graph_components.specs.declared.Found.{Found}
use Rattle.graph_components.specs.declared.Found.TheVariants.{Nothing, Only, Several}
use Rattle.graph_components.specs.Components.{turn, Split}

-- the list with the flags of the first n nodes
unfoldable pub flagged : (ℕ → ℕ → Bool) → ℕ → List ℕ → List ℕ
flagged e n l = tab (λ x. cond (ltb x n) (ind (only e (below n) x)) (get_or l x 0)) (length l)

-- an edge within the component with the label a is met
abbrev pub more_of : Found → ℕ → Found
more_of Nothing a = Only a
more_of (Only l) a = cond (eqb l a) (Only l) Several
more_of Several a = Several

-- an edge with the labels a and b is met
abbrev pub meet_of : Found → ℕ → ℕ → Found
meet_of found a b = cond (eqb a b) (more_of found a) found

-- what was found of the labels that have P: none has, one has, two have
abbrev pub Met : (ℕ → Type 0) → Found → Type 0
Met P Nothing = (l : ℕ) → P l → ⊥
Met P (Only l) = P l × ((m : ℕ) → P m → m ≡ l)
Met P Several = (l : ℕ) × (m : ℕ) × P l × P m × (l ≡ m → ⊥)

-- whether l is the only label
abbrev pub is_only : Found → ℕ → Bool
is_only Nothing l = false
is_only (Only m) l = eqb m l
is_only Several l = false

-- one of the edges of the nodes before x, or of the first j of x, has the label l at both ends
pub record Inner (g q : List ℕ) (n : ℕ) (c : ℕ → ℕ) (x j l : ℕ) : Type 0 where
  pub node : ℕ
  pub place : ℕ
  pub within : node < n
  pub there : place < deg g node
  pub before : (node < x) ⊎ ((node ≡ x) × (place < j))
  pub same : c node ≡ c (nb g q node place)
  pub label : c node ≡ l

pub record CanMeet (g q : List ℕ) (n : ℕ) (label : List ℕ) : Type 0 where
  pub graph : Graph g q n
  pub split : Split (edge g q n) n (at label)
  pub long : n ≤ length label

pub record CanFlag (label : List ℕ) (n : ℕ) (flags : List ℕ) : Type 0 where
  pub cells : n ≤ length label
  pub room : n ≤ length flags

-- the flags of the nodes below x tell which have the only label
pub record Flagged (label : List ℕ) (found : Found) (flags : List ℕ) (x : ℕ) (flags' : List ℕ) : Type 0 where
  pub long : length flags' ≡ length flags
  pub is : (i : ℕ) → i < x → get_or flags' i 0 ≡ ind (is_only found (get_or label i 0))
  pub beyond : (i : ℕ) → x ≤ i → get_or flags' i 0 ≡ get_or flags i 0

-- neighbour lists of the edges and of the edges turned round, the post-order, scratch and flags
pub record CanFlagOnly (g l h q : List ℕ) (n : ℕ) (order label stack flags : List ℕ) : Type 0 where
  pub graph : Graph g l n
  pub turned : Graph h q n
  pub same : edge g l n ≡ turn (edge h q n)
  pub ordered : Ordered (edge g l n) n (at order)
  pub places : n ≤ length order
  pub cells : n ≤ length label
  pub space : n ≤ length stack
  pub small : n < 2 ^ 31
  pub room : n ≤ length flags
