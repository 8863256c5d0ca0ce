-- How many rows are done. Assumes nothing.
use Prim.Native.Nat.{◌*◌}
use Rattle.graph_walks.specs.Ends.{ScannedTo}
use Rattle.graph_walks.proofs.end_rows.EndRowsEdges.scan.Given as goal

abbrev pub invariant-loop-i : goal.invariant-loop-i
invariant-loop-i l =
    ScannedTo l.self.flags.now l.self.stride l.self.count l.self.ends.now l.self.source l.self.target l.mark l.initial.marks l.initial.stack l.height l.t (l.i * l.self.count) l.marks l.stack l.sp
