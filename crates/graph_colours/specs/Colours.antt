-- The first walk as the book has it: the states of the nodes, what each step does to them, and runs of steps. Assumes nothing.
use Rattle.std.specs.Prelude.{ℕ, zero, suc, ◌+◌, ◌<◌, ◌≡◌, ◌⊎◌, List, [], ◌∷◌, get_or}
use Rattle.graph_colours.specs.declared.State.{State}
use Rattle.graph_colours.specs.declared.State.TheVariants.{White, Gray, Black}

-- the state that comes next: a white node is discovered, a gray one's edges are all gone through, a black one stays black
abbrev pub next_state : State → State
next_state White = Gray
next_state Gray = Black
next_state Black = Black

-- the state of a node by a number: 0 while it is white, 1 while it is gray, and more when it is black
abbrev pub colour_of : ℕ → State
colour_of zero = White
colour_of (suc zero) = Gray
colour_of (suc (suc k)) = Black

-- the number of a state, once fin nodes have finished
abbrev pub number_of : State → ℕ → ℕ
number_of White fin = 0
number_of Gray fin = 1
number_of Black fin = fin + 2

-- between two steps: each node's state, how many of its edges are gone through, and the nodes whose edges are being gone through, the last opened first
pub record View : Type 0 where
  pub state : ℕ → State
  pub cursor : ℕ → ℕ
  pub path : List ℕ

-- y goes on to its next state, and no other node changes
pub record Turns (n y : ℕ) (s s' : ℕ → State) : Type 0 where
  pub this : s' y ≡ next_state (s y)
  pub others : (x : ℕ) → x < n → (x ≡ y → ⊥) → s' x ≡ s x

-- x is the node opened last, and y its next neighbour
pub record Next (d : ℕ → ℕ) (f : ℕ → ℕ → ℕ) (v : View) (x y : ℕ) : Type 0 where
  pub rest : List ℕ
  pub top : v.path ≡ x ∷ rest
  pub more : v.cursor x < d x
  pub there : f x (v.cursor x) ≡ y

-- a white node is discovered: a root, or the next neighbour of the node opened last
pub record Opens (n : ℕ) (d : ℕ → ℕ) (f : ℕ → ℕ → ℕ) (v w : View) (y : ℕ) : Type 0 where
  pub node : y < n
  pub white : v.state y ≡ White
  pub from : (v.path ≡ []) ⊎ ((x : ℕ) × Next d f v x y)
  pub turns : Turns n y v.state w.state
  pub cursors : (x : ℕ) → x < n → w.cursor x ≡ v.cursor x
  pub path : w.path ≡ y ∷ v.path

-- an edge of x is gone through: it leads to y, which is not white
pub record Passes (n : ℕ) (d : ℕ → ℕ) (f : ℕ → ℕ → ℕ) (v w : View) (x y : ℕ) : Type 0 where
  pub next : Next d f v x y
  pub known : v.state y ≡ White → ⊥
  pub states : (z : ℕ) → z < n → w.state z ≡ v.state z
  pub this : w.cursor x ≡ v.cursor x + 1
  pub others : (z : ℕ) → z < n → (z ≡ x → ⊥) → w.cursor z ≡ v.cursor z
  pub path : w.path ≡ v.path

-- all edges of x, the node opened last, are gone through
pub record Closes (n : ℕ) (d : ℕ → ℕ) (v w : View) (x : ℕ) : Type 0 where
  pub path : v.path ≡ x ∷ w.path
  pub all : v.cursor x ≡ d x
  pub turns : Turns n x v.state w.state
  pub cursors : (z : ℕ) → z < n → w.cursor z ≡ v.cursor z

-- one step. Node x has d x neighbours, the i-th is f x i
pub data Step (n : ℕ) (d : ℕ → ℕ) (f : ℕ → ℕ → ℕ) (v w : View) : Type 0 where
  opens : (y : ℕ) → Opens n d f v w y → Step n d f v w
  passes : (x y : ℕ) → Passes n d f v w x y → Step n d f v w
  closes : (x : ℕ) → Closes n d v w x → Step n d f v w

-- steps one after the other
pub data Run (n : ℕ) (d : ℕ → ℕ) (f : ℕ → ℕ → ℕ) : View → View → Type 0 where
  none : {v : View} → Run n d f v v
  more : {u v w : View} → Run n d f u v → Step n d f v w → Run n d f u w

-- before the first step: every node is white, none of its edges gone through
pub record Starts (n : ℕ) (v : View) : Type 0 where
  pub white : (x : ℕ) → x < n → v.state x ≡ White
  pub none : (x : ℕ) → x < n → v.cursor x ≡ 0
  pub empty : v.path ≡ []

-- the first p places of a stack, the last first
unfoldable pub held : (ℕ → ℕ) → ℕ → List ℕ
held s zero = []
held s (suc p) = s p ∷ held s p

-- what the lists of the walk show
abbrev pub view : List State → List ℕ → List ℕ → ℕ → View
view colour cursor stack sp = record { state = λ x. get_or colour x White; cursor = λ x. get_or cursor x 0; path = held (λ p. get_or stack p 0) sp }

-- the walk ran from the first state to what the lists show
pub record Ran (n : ℕ) (d : ℕ → ℕ) (f : ℕ → ℕ → ℕ) (last : View) : Type 0 where
  pub first : View
  pub starts : Starts n first
  pub run : Run n d f first last
  pub black : (x : ℕ) → x < n → last.state x ≡ Black
