-- The list that a walk over a graph goes by. Assumes nothing.
use Rattle.std.specs.Prelude.{List, ℕ}
use Rattle.graph_neighbours.specs.Direction.{along}
use Rattle.graph_neighbours.specs.declared.Neighbours.{Neighbours}

abbrev pub followed : Neighbours → List ℕ
followed graph = along graph.direction graph.dependencies.now graph.dependents.now
