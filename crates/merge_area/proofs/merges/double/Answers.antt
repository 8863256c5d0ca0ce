-- One number more is led on. Assumes nothing.
use Rattle.std.proofs.Common.{refl, arith}
use Rattle.merge_area.proofs.Merging.{doubling_none, doubling_more, doubling_done}
use Rattle.merge_area.proofs.merges.double.Goals as goal

pub loop-x-init : goal.loop-x-init
loop-x-init c = doubling_none _ _ c.requires

pub loop-x-preserved : goal.loop-x-preserved
loop-x-preserved c = doubling_more _ _ _ c.loop-x.invariant c.loop-x-test.true refl refl

pub returns : goal.returns
returns c = doubling_done _ c.loop-x.invariant (omega arith)
