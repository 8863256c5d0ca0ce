-- Which of two lists a walk goes by. Assumes nothing.
use Rattle.std.specs.Prelude.{List, ℕ}
use Rattle.graph_neighbours.specs.declared.Direction.{Direction}
use Rattle.graph_neighbours.specs.declared.Direction.TheVariants.{Dependencies, Dependents}

abbrev pub along : Direction → List ℕ → List ℕ → List ℕ
along Dependencies a b = a
along Dependents a b = b
