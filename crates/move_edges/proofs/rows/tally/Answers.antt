-- `move_edges::rows::tally` meets its contract. Assumes nothing.
use Rattle.std.proofs.Common.{arith, ◌∙◌}
use Rattle.move_edges.proofs.Counting.{told}
use Rattle.move_edges.proofs.Checking.{some_none, some_can, some_more}
use Rattle.move_edges.proofs.rows.tally.Goals as goal

pub loop-node-init : goal.loop-node-init
loop-node-init c = some_none _ _

pub overflow_add-row : goal.overflow_add-row
overflow_add-row c = omega (arith, some_can c.requires c.loop-node.invariant c.loop-node-test.true)

pub loop-node-preserved : goal.loop-node-preserved
loop-node-preserved c = some_more c.requires c.loop-node.invariant c.loop-node-test.true (c.from-found.ensures ∙ told _)
