-- What the functions that check the matrix row by row ask and show. Assumes nothing.
use Rattle.std.specs.Prelude.{◌≡◌, List, Bool, true, not, ℕ, ◌+◌, ◌*◌, ◌^◌, ◌≤◌, ◌<◌, eqb, ltb, length, get_or, Option, MatchOption}
use Rattle.std.proofs.Common.{sym, ◌∙◌}
use Rattle.std.proofs.Math.Path.{ap}
use Rattle.graphs.specs.Bools.{Decides}
use Rattle.graphs.specs.Count.{count, count_ext}
use Rattle.graphs.specs.Slots.{slot_edge, Ends}
use Rattle.graph_neighbours.specs.Groups.{occ}
use Rattle.graph_neighbours.specs.Steps.{Grouped}
use Rattle.graph_neighbours.specs.Parts.{part_of, part-occ}
use Rattle.graph_neighbours.specs.Lists.{Graph}
use Rattle.move_edges.specs.Matrix.{Holds, holds-counts, counts-holds}

pub record CanTally (part row : List ℕ) : Type 0 where
  pub within : (k : ℕ) → k < length part → get_or part k 0 < length row
  pub room : (k : ℕ) → k < length part → get_or row (get_or part k 0) 0 + length part < 4294967295

pub record CanWipe (part row : List ℕ) : Type 0 where
  pub within : (k : ℕ) → k < length part → get_or part k 0 < length row

pub record Wiped (part row row' : List ℕ) : Type 0 where
  pub zero : (y : ℕ) → 1 ≤ occ y part → get_or row' y 0 ≡ 0
  pub kept : (y : ℕ) → occ y part ≡ 0 → get_or row' y 0 ≡ get_or row y 0
  pub long : length row' ≡ length row

-- how many of the first n numbers differ, and how many are not 0
abbrev pub differing : (ℕ → ℕ) → (ℕ → ℕ) → ℕ → ℕ
differing f g n = count (λ y. not (eqb (f y) (g y))) n

abbrev pub nonzero : (ℕ → ℕ) → ℕ → ℕ
nonzero f n = count (λ y. ltb 0 (f y)) n

-- found more numbers are not 0, wherever that is looked at with every neighbour
pub record Tallied (part row row' : List ℕ) (found : ℕ) : Type 0 where
  pub at : (y : ℕ) → get_or row' y 0 ≡ get_or row y 0 + occ y part
  pub more : (n : ℕ) → ((k : ℕ) → k < length part → get_or part k 0 < n) → nonzero (λ y. get_or row' y 0) n ≡ nonzero (λ y. get_or row y 0) n + found
  pub long : length row' ≡ length row

pub record CanCompare (numbers row : List ℕ) : Type 0 where
  pub rows : length numbers ≤ length row
  pub few : length numbers < 2 ^ 32

pub record CanCount (numbers : List ℕ) : Type 0 where
  pub few : length numbers < 2 ^ 32

abbrev pub numbers_of : List ℕ → ℕ → ℕ
numbers_of row y = get_or row y 0

-- so many numbers differ from those of g
pub record Compared (numbers : List ℕ) (g : ℕ → ℕ) (unequal : ℕ) : Type 0 where
  pub differ : unequal ≡ differing (numbers_of numbers) g (length numbers)

-- the first n numbers are 0
pub record Clean (row : List ℕ) (n : ℕ) : Type 0 where
  pub at : (y : ℕ) → y < n → get_or row y 0 ≡ 0

pub record CanCheckRow (numbers part row : List ℕ) : Type 0 where
  pub rows : length numbers ≤ length row
  pub nodes : length numbers < 2 ^ 32
  pub few : length part < 2 ^ 31
  pub within : (k : ℕ) → k < length part → get_or part k 0 < length numbers
  pub clean : Clean row (length numbers)

-- each number of a row is how often its column stands in a part
pub record RowIs (numbers part : List ℕ) : Type 0 where
  pub at : (y : ℕ) → y < length numbers → get_or numbers y 0 ≡ occ y part

pub record RowChecked (numbers part row' : List ℕ) (r : Option ℕ) : Type 0 where
  pub told : MatchOption r (RowIs numbers part → ⊥) (λ edges. RowIs numbers part × (edges ≡ nonzero (λ y. occ y part) (length numbers)))
  pub clean : Clean row' (length numbers)

-- each number of the matrix is how often the column is a neighbour of the row
pub record RowsAre (e : List ℕ) (n : ℕ) (starts list : List ℕ) : Type 0 where
  pub at : (x y : ℕ) → x < n → y < n → get_or e (x * n + y) 0 ≡ occ y (part_of starts list x)

pub record CanCheck (e : List ℕ) (n : ℕ) (starts list row edges : List ℕ) : Type 0 where
  pub square : n * n ≤ length e
  pub rows : n ≤ length row
  pub answers : n ≤ length edges
  pub nodes : n < 2 ^ 32
  pub graph : Graph starts list n

-- the answer, and where it is yes, how many edges start at each node
pub record Checked (e : List ℕ) (n : ℕ) (starts list edges' : List ℕ) (r : Bool) : Type 0 where
  pub says : Decides (RowsAre e n starts list) r
  pub edges : r ≡ true → (x : ℕ) → x < n → get_or edges' x 0 ≡ nonzero (λ y. occ y (part_of starts list x)) n

-- with grouped slots: whether the matrix is that of the slots, and how many nodes each has an edge to
module _ {e : List ℕ} {n : ℕ} {s t : List ℕ} {m : ℕ} {l starts out list edges : List ℕ} {r : Bool} (g : Grouped s t m n l starts out list) (c : Checked e n starts list edges r) where
  pub checked-holds : Ends s t n m → Decides (Holds e n s t m) r
  checked-holds ends = record {
    right = λ q. counts-holds ends (record { at = λ x y hx hy. (c.says.right q).at x y hx hy ∙ part-occ g x hx y });
    wrong = λ q h. c.says.wrong q (record { at = λ x y hx hy. (holds-counts ends h).at x y hx hy ∙ sym (part-occ g x hx y) });
  }

  pub checked-edges : r ≡ true → (x : ℕ) → x < n → get_or edges x 0 ≡ count (slot_edge s t m x) n
  unfolding slot_edge
  checked-edges q x h = c.edges q x h ∙ count_ext _ _ n (λ y z. ap (ltb 0) (part-occ g x h y))
