-- `move_edges::rows::tally` meets its contract. Assumes nothing.
use Rattle.move_edges.proofs.Checking.{Some}
use Rattle.move_edges.proofs.rows.tally.Given as goal

abbrev pub invariant-loop-node : goal.invariant-loop-node
invariant-loop-node l = Some l.part l.initial.row l.row l.node-index l.found
