-- What the edges of the nodes before x tell. Assumes nothing.
use Rattle.graph_neighbours.specs.Followed.{followed}
use Rattle.graph_depth_first.specs.Steps.{at}
use Rattle.graph_components.specs.Only.{Met, Inner}
use Rattle.graph_components.proofs.within.Given as goal

abbrev pub invariant-loop-x : goal.invariant-loop-x
invariant-loop-x l = Met (Inner l.graph.starts.now (followed l.graph) l.n (at l.label) l.x 0) l.found
