-- How much of the row is looked at. Assumes nothing.
use Rattle.graph_walks.specs.Ends.{Swept}
use Rattle.graph_walks.proofs.end_rows.EndRows.scan_row.Given as goal

abbrev pub invariant-loop-j : goal.invariant-loop-j
invariant-loop-j l =
    Swept l.self.flags.now l.self.stride l.self.count l.self.ends.now l.self.source l.self.target l.mark l.initial.marks l.initial.stack l.height l.t l.i l.j l.marks l.stack l.sp
