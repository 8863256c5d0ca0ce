-- The acyclic flag and the component of an area. Assumes nothing.
use Rattle.std.specs.Prelude.{◌≡◌, Bool, not, List, ℕ, ◌+◌, ◌*◌, ◌<◌, get_or}
use Rattle.graphs.specs.Count.{ind}
use Rattle.graphs.specs.Lists.{below}
use Rattle.graphs.specs.Walk.{cyclic, only}
use Rattle.move_area.specs.Bodies.{lane_at}

-- the acyclic flag is `flag`, and the component's flags are those of f
pub record FlagsAre (flag : ℕ) (f : ℕ → ℕ) (n : ℕ) (area : List ℕ) : Type 0 where
  pub acyclic : get_or area (n * n + 2) 0 ≡ flag
  pub component : (x : ℕ) → x < n → get_or area (lane_at n 10 + x) 0 ≡ f x

abbrev pub component_of : (ℕ → ℕ → Bool) → ℕ → ℕ → ℕ
component_of edge n x = ind (only edge (below n) x)

-- they are those of a graph of n nodes
abbrev pub Flagged : (ℕ → ℕ → Bool) → ℕ → List ℕ → Type 0
Flagged edge n area = FlagsAre (ind (not (cyclic edge (below n)))) (component_of edge n) n area
