-- One number more of both rows. Assumes nothing.
use Rattle.std.proofs.Common.{arith}
use Rattle.merge_laws.specs.Merging.{half_none, half_more, half_done}
use Rattle.merge_dependencies.proofs.merge_rows.Goals as goal

pub loop-y-init : goal.loop-y-init
loop-y-init c = half_none c.requires

pub loop-y-preserved : goal.loop-y-preserved
loop-y-preserved c = half_more c.requires c.loop-y.invariant c.loop-y-test.true c.merge_cell.ensures

pub returns : goal.returns
returns c = half_done c.loop-y.invariant (omega arith)
