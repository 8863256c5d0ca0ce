-- `move_edges::rows::wipe` meets its contract. Assumes nothing.
use Rattle.move_edges.proofs.Checking.{Less}
use Rattle.move_edges.proofs.rows.wipe.Given as goal

abbrev pub invariant-loop-node : goal.invariant-loop-node
invariant-loop-node l = Less l.part l.initial.row l.row l.node-index
