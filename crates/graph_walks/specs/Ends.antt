-- A walk over rows of flags whose nodes stand for their ends. Assumes nothing.
use Rattle.std.specs.Prelude.{ℕ, ◌+◌, ◌*◌, ◌<◌, ◌≤◌, Bool, not, ◌&&◌, List, get_or, length, eqb}
use Rattle.graph_walks.specs.Closed.{flag_edge}
use Rattle.graph_walks.specs.Counted.{counted, without}
use Rattle.graph_walks.specs.Places.{square, reached, holds, passes}
use Rattle.graph_walks.specs.Spread.{Ready, Scanned, Rows}

-- a node's end
abbrev pub end_at : List ℕ → ℕ → ℕ
end_at ends x = get_or ends x 0

-- the edges that count, all but that of s on t; and their places
abbrev pub end_edge : List ℕ → ℕ → ℕ → List ℕ → ℕ → ℕ → ℕ → ℕ → Bool
end_edge l c n ends s t = without (counted (flag_edge l c n) (end_at ends) n) s t

abbrev pub end_place : List ℕ → ℕ → ℕ → List ℕ → ℕ → ℕ → ℕ → ℕ → Bool
end_place l c n ends s t = passes (holds (flag_edge l c n) (end_at ends) n) (reached (end_at ends) n) s t

-- of node x, a flag whose node's end is y is looked at
unfoldable pub looked_at : ℕ → ℕ → ℕ → ℕ → ℕ → Bool
looked_at flag s t x y = (not (eqb flag 0) && not (eqb y x)) && not (eqb x s && eqb y t)

-- n rows of c flags, and the ends of n nodes
pub record EndRows (l : List ℕ) (c n : ℕ) (ends : List ℕ) : Type 0 where
  pub rows : Rows l c n
  pub long : n ≤ length ends
  pub each : (x : ℕ) → x < n → get_or ends x 0 < n

pub record CanScanEndRow (l : List ℕ) (c n mark : ℕ) (marks stack : List ℕ) (sp t i : ℕ) : Type 0 where
  pub ready : Ready n mark marks stack sp
  pub node : t < n
  pub row : i < n
  pub inside : i * c + n ≤ length l

-- the walk's scan of t, as far as the first k places
abbrev pub ScannedTo : List ℕ → ℕ → ℕ → List ℕ → ℕ → ℕ → ℕ → List ℕ → List ℕ → ℕ → ℕ → ℕ → List ℕ → List ℕ → ℕ → Type 0
ScannedTo l c n ends s t mark marks stack sp x k marks' stack' sp' =
    Scanned (end_edge l c n ends s t) n (square n) (reached (end_at ends) n) (end_place l c n ends s t) mark marks stack sp x k marks' stack' sp'

-- row i is done, up to column j
pub record Swept (l : List ℕ) (c n : ℕ) (ends : List ℕ) (s t mark : ℕ) (marks stack : List ℕ) (sp x i j : ℕ) (marks' stack' : List ℕ) (sp' : ℕ) : Type 0 where
  pub ready : Ready n mark marks' stack' sp'
  pub more : (l₀ s₀ : List ℕ) (sp₀ : ℕ) → ScannedTo l c n ends s t mark l₀ s₀ sp₀ x (i * n) marks stack sp → ScannedTo l c n ends s t mark l₀ s₀ sp₀ x (i * n + j) marks' stack' sp'
