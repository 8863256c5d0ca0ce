-- What the walks over the graph of the slots ask. Assumes nothing.
use Rattle.std.specs.Prelude.{ℕ, ◌^◌, ◌<◌, ◌≤◌, ◌≡◌, List, get_or, length}
use Rattle.graphs.specs.Slots.{Ends, slot_edge}
use Rattle.graph_neighbours.specs.Lists.{edge, Graph}
use Rattle.graph_depth_first.specs.Order.{Ordered}
use Rattle.graph_depth_first.specs.Steps.{at}

-- m slots between n nodes
pub record Slots (s t : List ℕ) (m n : ℕ) : Type 0 where
  pub slots : m ≤ 8448
  pub sources : m ≤ length s
  pub targets : m ≤ length t
  pub ends : Ends s t n m
  pub nodes : n ≤ 1024

-- room for the neighbour lists of m slots between n nodes
pub record ListRoom (m n : ℕ) (heads list : List ℕ) : Type 0 where
  pub rows : n < length heads
  pub room : m ≤ length list
  pub short : length list < 2 ^ 31

-- the neighbour lists are those of the slots
pub record SlotLists (s t : List ℕ) (m n : ℕ) (heads list : List ℕ) : Type 0 where
  pub slots : Slots s t m n
  pub graph : Graph heads list n
  pub same : edge heads list n ≡ slot_edge s t m

pub record CanMark (heads list : List ℕ) (n mark root : ℕ) (marks : List ℕ) : Type 0 where
  pub graph : Graph heads list n
  pub nodes : n ≤ 1024
  pub cells : n ≤ length marks
  pub start : root < n
  pub fresh : (x : ℕ) → x < n → get_or marks x 0 < mark

-- the post-order of a first walk is there
pub record CanFlagFrom (s t : List ℕ) (m n : ℕ) (heads list order label stack flags : List ℕ) : Type 0 where
  pub lists : SlotLists s t m n heads list
  pub ordered : Ordered (edge heads list n) n (at order)
  pub orders : n ≤ length order
  pub labels : n ≤ length label
  pub places : n ≤ length stack
  pub room : n ≤ length flags

pub record CanFlagSlots (s t : List ℕ) (m n : ℕ) (heads list flags : List ℕ) : Type 0 where
  pub lists : SlotLists s t m n heads list
  pub room : n ≤ length flags
