-- `move_edges::rows::wipe` meets its contract. Assumes nothing.
use Rattle.move_edges.proofs.Checking.{less_none, less-more}
use Rattle.move_edges.proofs.rows.wipe.Goals as goal

pub loop-node-init : goal.loop-node-init
loop-node-init c = less_none _ _

pub loop-node-preserved : goal.loop-node-preserved
loop-node-preserved c = less-more c.requires c.loop-node.invariant c.loop-node-test.true
