-- What the scan has done so far. Assumes nothing.
use Rattle.graph_neighbours.specs.Followed.{followed}
use Rattle.graph_walks.specs.Reads.{in_lists, LookedTo}
use Rattle.graph_walks.proofs.ListedEdges.scan.Given as goal

abbrev pub invariant-loop-y : goal.invariant-loop-y
invariant-loop-y l =
    LookedTo (in_lists l.self.graph.now.starts.now (followed l.self.graph.now) l.self.count) l.mark l.initial.marks l.initial.stack l.height l.t l.y-index l.marks l.stack l.sp
