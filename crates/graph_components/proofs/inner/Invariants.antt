-- What the edges so far tell. Assumes nothing.
use Rattle.graph_neighbours.specs.Followed.{followed}
use Rattle.graph_depth_first.specs.Steps.{at}
use Rattle.graph_components.specs.Only.{Met, Inner}
use Rattle.graph_components.proofs.inner.Given as goal

abbrev pub invariant-loop-y : goal.invariant-loop-y
invariant-loop-y l = Met (Inner l.graph.starts.now (followed l.graph) l.n (at l.label) l.x l.y-index) l.found
