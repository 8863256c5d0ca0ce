-- What the walk has done so far; each scan makes a number less. Assumes nothing.
use Rattle.graph_walks.specs.Reads.{Walked}
use Rattle.graph_walks.specs.Spread.{size}
use Rattle.graph_walks.proofs.spread_over.Given as goal

abbrev pub invariant-loop-sp : goal.invariant-loop-sp
invariant-loop-sp g l = Walked (g.E.Edges.reads l.edges) l.mark l.initial.marks l.initial.stack l.height l.marks l.stack l.sp

abbrev pub decreases-loop-sp : goal.decreases-loop-sp
decreases-loop-sp g l = size (g.E.Edges.reads l.edges).nodes l.mark l.marks l.sp
