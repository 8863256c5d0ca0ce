-- `layout::copy`: one number more at each turn. Assumes nothing.
use Rattle.std.proofs.Common.{arith}
use Rattle.layout.proofs.Writes.{copy_none, copy_more, copy_done}
use Rattle.layout.proofs.copy.Goals as goal

pub loop-i-init : goal.loop-i-init
loop-i-init c = copy_none

pub loop-i-preserved : goal.loop-i-preserved
loop-i-preserved c = copy_more c.loop-i.invariant c.loop-i-test.true c.requires.inside

pub returns : goal.returns
returns c = copy_done c.loop-i.invariant (omega arith)
