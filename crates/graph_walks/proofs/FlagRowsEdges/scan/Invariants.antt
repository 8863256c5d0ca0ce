-- What the scan has done so far. Assumes nothing.
use Rattle.graph_walks.specs.Reads.{in_rows, LookedTo}
use Rattle.graph_walks.proofs.FlagRowsEdges.scan.Given as goal

abbrev pub invariant-loop-y : goal.invariant-loop-y
invariant-loop-y l = LookedTo (in_rows l.self.flags.now l.self.stride l.self.count) l.mark l.initial.marks l.initial.stack l.height l.t l.y l.marks l.stack l.sp
