-- One chunk more at each turn. Assumes nothing.
use Rattle.merge_loading.proofs.Chunks.{can_part, can_list_with, next_listed}
use Rattle.merge_loading.proofs.entries.list_modules.Goals as goal

pub modules_of-modules-requires : goal.modules_of-modules-requires
modules_of-modules-requires c = can_part c.requires c.loop-x-test.true

pub list_with-requires : goal.list_with-requires
list_with-requires c = rw c.modules_of-modules.ensures (can_list_with c.requires c.loop-x-test.true c.loop-x.invariant)

pub loop-x-preserved : goal.loop-x-preserved
loop-x-preserved c = next_listed c.requires c.loop-x-test.true c.loop-x.invariant (rw (← c.modules_of-modules.ensures) c.list_with.ensures)
