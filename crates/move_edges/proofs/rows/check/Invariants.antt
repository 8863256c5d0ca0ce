-- `move_edges::rows::check` meets its contract. Assumes nothing.
use Rattle.move_edges.proofs.Checking.{Rows}
use Rattle.move_edges.proofs.rows.check.Given as goal

abbrev pub invariant-loop-x : goal.invariant-loop-x
invariant-loop-x l = Rows l.edges l.n l.starts l.list l.row l.degrees l.x
