-- What the steps of the start order ask and show. Assumes nothing.
use Rattle.std.specs.Prelude.{ℕ, ◌+◌, ◌*◌, ◌≤◌, ◌<◌, ◌≡◌, Bool, true, false, not, List, [], map, eqb, length, get_or, set, All}
use Rattle.graphs.specs.Count.{ind}
use Rattle.graphs.specs.Lists.{has}
use Rattle.layout.specs.Patch.{patch}
use Rattle.move_ledger.specs.Graph.{at}
use Rattle.start_order.specs.declared.nodes.Nodes.{Nodes}
use Rattle.start_order.specs.Turns.{Setting, Fits, Row, is_ready, Turn, whole}

-- each node of the order has a mark and a number of edges
pub record CanSeek (order marks degrees : List ℕ) : Type 0 where
  pub marked : All (λ x. x < length marks) order
  pub counted : All (λ x. x < length degrees) order

-- the place of the first node of the order that can be listed
pub record Sought (order marks degrees : List ℕ) (i : ℕ) : Type 0 where
  pub inside : i < length order
  pub found : is_ready marks degrees (at order i) ≡ true
  pub before : (j : ℕ) → j < i → is_ready marks degrees (at order j) ≡ false

-- whether the matrix has an edge from y to z
abbrev pub leads : List ℕ → ℕ → ℕ → ℕ → Bool
leads area n z y = not (eqb (get_or area (y * n + z) 0) 0)

-- each node that has an edge to z has one edge less
pub record CanPass (g : Nodes) (z : ℕ) (degrees : List ℕ) : Type 0 where
  pub target : z < g.area.n
  pub long : g.registered ≤ length degrees
  pub some : (y : ℕ) → y < g.registered → ind (leads g.area.numbers.now g.area.n z y) ≤ at degrees y

-- and this was so of the first r nodes
pub record Passed (area : List ℕ) (n r z : ℕ) (degrees degrees' : List ℕ) : Type 0 where
  pub passed : (y : ℕ) → y < r → at degrees' y + ind (leads area n z y) ≡ at degrees y
  pub others : (y : ℕ) → r ≤ y → at degrees' y ≡ at degrees y

-- node z is listed at place k by its number
pub record CanTake (g : Nodes) (z k : ℕ) (low marks degrees chunks : List ℕ) : Type 0 where
  pub pass : CanPass g z degrees
  pub lows : z < length low
  pub marks_long : z < length marks
  pub room : k < length chunks

pub record Taken (g : Nodes) (z k : ℕ) (low marks degrees chunks marks' degrees' chunks' : List ℕ) : Type 0 where
  pub named : chunks' ≡ set chunks k (at low z)
  pub marked : marks' ≡ set marks z 2
  pub passed : (y : ℕ) → y < g.registered → at degrees' y + ind (leads g.area.numbers.now g.area.n z y) ≡ at degrees y

-- all that the turns work with
pub record CanList (s : Setting) (g : Nodes) (a : ℕ) (order low marks degrees chunks : List ℕ) : Type 0 where
  pub fits : Fits s g.registered
  pub row : Row s g.registered order
  pub cell : (x y : ℕ) → x < g.area.n → y < g.area.n → not (eqb (get_or g.area.numbers.now (x * g.area.n + y) 0) 0) ≡ s.edge x y
  pub orders : length order ≡ g.registered
  pub lows : g.registered ≤ length low
  pub marks_long : g.registered ≤ length marks
  pub degrees_long : g.registered ≤ length degrees
  pub room : a ≤ length chunks
  pub first : Turn s g.area.n g.registered a 0 [] marks degrees

-- the nodes of all chunks to fetch were listed, each by its number
pub record Told (s : Setting) (r a : ℕ) (low chunks chunks' : List ℕ) (k : ℕ) : Type 0 where
  pub listed : List ℕ
  pub all : whole s a ≡ map s.set listed
  pub inside : (x : ℕ) → has x listed ≡ true → x < r
  pub wanted : (x : ℕ) → has x listed ≡ true → s.wanted (s.set x) ≡ true
  pub many : k ≡ length listed
  pub named : chunks' ≡ patch 0 (map (at low) listed) chunks
