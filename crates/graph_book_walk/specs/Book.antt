-- What the two routines of the textbook's search ask and show. Assumes nothing.
use Rattle.std.specs.Prelude.{ℕ, ◌<◌, ◌≤◌, ◌≡◌, ◌⊎◌, Bool, true, false, List, get_or, length}
use Rattle.graphs.specs.Lists.{below}
use Rattle.graphs.specs.Walk.{Walk, cyclic}
use Rattle.graph_colours.specs.declared.State.{State}
use Rattle.graph_colours.specs.declared.State.TheVariants.{White}
use Rattle.graph_colours.specs.States.{code}
use Rattle.graph_neighbours.specs.Lists.{deg, nb, edge, Graph}

-- the number of x's state: 0 for white, 1 for gray, 2 for black
abbrev pub at : List State → ℕ → ℕ
at l x = code (get_or l x White)

-- an edge from a black node leads to a black node, and no black node is on a closed walk
pub record Clean (e : ℕ → ℕ → Bool) (n : ℕ) (c : ℕ → ℕ) : Type 0 where
  pub out : (x y : ℕ) → x < n → 2 ≤ c x → e x y ≡ true → 2 ≤ c y
  pub none : (x : ℕ) → x < n → 2 ≤ c x → Walk e x x → ⊥

-- a gray or black node stays as it is, and a white one is not left gray
pub record Grown (n : ℕ) (c c' : ℕ → ℕ) : Type 0 where
  pub known : (x : ℕ) → x < n → (c x ≡ 0 → ⊥) → c' x ≡ c x
  pub fresh : (x : ℕ) → x < n → c x ≡ 0 → c' x ≡ 1 → ⊥

-- x is white, and every gray node has a walk to it
pub record CanOpen (starts list : List ℕ) (n : ℕ) (colour : List State) (x : ℕ) : Type 0 where
  pub graph : Graph starts list n
  pub long : length colour ≡ n
  pub node : x < n
  pub white : at colour x ≡ 0
  pub clean : Clean (edge starts list n) n (at colour)
  pub path : (y : ℕ) → y < n → at colour y ≡ 1 → Walk (edge starts list n) y x

-- a gray node was met, and there is a closed walk; or none was, and x is black
pub record Opened (starts list : List ℕ) (n : ℕ) (colour : List State) (x : ℕ) (colour' : List State) (met : Bool) : Type 0 where
  pub closes : met ≡ true → cyclic (edge starts list n) (below n) ≡ true
  pub black : met ≡ false → 2 ≤ at colour' x
  pub clean : met ≡ false → Clean (edge starts list n) n (at colour')
  pub grown : met ≡ false → Grown n (at colour) (at colour')

-- x is gray, and every other gray node has a walk to it
pub record CanGo (starts list : List ℕ) (n : ℕ) (colour : List State) (x : ℕ) : Type 0 where
  pub graph : Graph starts list n
  pub long : length colour ≡ n
  pub node : x < n
  pub gray : at colour x ≡ 1
  pub clean : Clean (edge starts list n) n (at colour)
  pub path : (y : ℕ) → y < n → at colour y ≡ 1 → (y ≡ x) ⊎ Walk (edge starts list n) y x

-- a gray node was met, and there is a closed walk; or none was, and all neighbours of x are black
pub record Gone (starts list : List ℕ) (n : ℕ) (colour : List State) (x : ℕ) (colour' : List State) (met : Bool) : Type 0 where
  pub closes : met ≡ true → cyclic (edge starts list n) (below n) ≡ true
  pub all : met ≡ false → (i : ℕ) → i < deg starts x → 2 ≤ at colour' (nb starts list x i)
  pub clean : met ≡ false → Clean (edge starts list n) n (at colour')
  pub grown : met ≡ false → Grown n (at colour) (at colour')
