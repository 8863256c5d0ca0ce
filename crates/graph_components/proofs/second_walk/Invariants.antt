-- The nodes at the places gone through are labelled. Assumes nothing.
use Rattle.graph_neighbours.specs.Followed.{followed}
use Rattle.graph_components.specs.Components.{Parting}
use Rattle.graph_components.proofs.second_walk.Given as goal

abbrev pub invariant-loop-k : goal.invariant-loop-k
invariant-loop-k l = Parting l.turned.starts.now (followed l.turned) l.n l.order l.label l.stack l.k
