-- What the steps of the listing ask and show. Assumes nothing.
use Rattle.std.specs.Prelude.{ℕ, ◌+◌, ◌*◌, ◌≤◌, ◌<◌, ◌≡◌, not, List, eqb, length, get_or}
use Rattle.graphs.specs.Count.{count}
use Rattle.graphs.specs.Total.{total}
use Rattle.move_questions.specs.declared.Row.{Row}

-- what stands at x
abbrev pub at : List ℕ → ℕ → ℕ
at l x = get_or l x 0

-- the numbers of edges of the first i nodes of an order
abbrev pub edges_before : List ℕ → List ℕ → ℕ → ℕ
edges_before order degrees i = total (λ q. at degrees (at order q)) i

-- each node of the order has a number of edges
pub record CanFindRow (order degrees : List ℕ) : Type 0 where
  pub node : (q : ℕ) → q < length order → at order q < length degrees

-- k is the number of edges before the row, and of `rest` in it
pub record RowFound (order degrees : List ℕ) (k : ℕ) (row : Row) : Type 0 where
  pub inside : row.at < length order
  pub sum : edges_before order degrees row.at + row.rest ≡ k
  pub fits : row.rest < at degrees (at order row.at)

-- how many of the first j nodes of the order node x has an edge to
abbrev pub cells_before : List ℕ → ℕ → ℕ → List ℕ → ℕ → ℕ
cells_before area n x order j = count (λ q. not (eqb (at area (x * n + at order q)) 0)) j

-- x and the nodes of the order are among the matrix's n
pub record CanFindCell (area : List ℕ) (n x : ℕ) (order : List ℕ) : Type 0 where
  pub node : (q : ℕ) → q < length order → at order q < n
  pub row : x < n
  pub square : n * n ≤ length area

-- the j-th node of the order is the target of an edge, and `rest` come before
pub record CellFound (area : List ℕ) (n x : ℕ) (order : List ℕ) (rest j : ℕ) : Type 0 where
  pub inside : j < length order
  pub edge : at area (x * n + at order j) ≡ 0 → ⊥
  pub before : cells_before area n x order j ≡ rest
