-- Dependencies as a matrix of flags, and the closed union of two rows. Assumes nothing.
use Rattle.std.specs.Prelude.{ℕ, ◌+◌, ◌*◌, Bool, not, ◌&&◌, ◌||◌, List, eqb, ltb, get_or}
use Rattle.graphs.specs.Lists.{below, some_below}
use Rattle.graphs.specs.Walk.{via}

-- x depends on y: rows of c numbers, of which the nodes below n are made
unfoldable pub flag_edge : List ℕ → ℕ → ℕ → ℕ → ℕ → Bool
flag_edge l c n x y = ltb x n && (ltb y n && not (eqb (get_or l (x * c + y) 0) 0))

-- x is in the union of the dependencies of s and t, closed under dependency, for dependencies d between nodes below n
unfoldable pub closed : (ℕ → ℕ → Bool) → ℕ → ℕ → ℕ → ℕ → Bool
closed d n s t x = some_below (λ y. (d s y || d t y) && (eqb y x || via d (below n) y x)) n
