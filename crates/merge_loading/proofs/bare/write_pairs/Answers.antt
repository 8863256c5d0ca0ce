-- One pair more at each turn. Assumes nothing.
use Rattle.std.proofs.Common.{arith}
use Rattle.merge_loading.specs.Bare.{name_none, name_more}
use Rattle.merge_loading.proofs.bare.write_pairs.Goals as goal

pub loop-k-init : goal.loop-k-init
loop-k-init c = (c.set_width-w.ensures, name_none)

pub loop-k-preserved : goal.loop-k-preserved
loop-k-preserved c = (c.loop-k.invariant.0, name_more c.loop-k.invariant.1 (omega arith) (rw (← c.loop-k.invariant.0) c.at.ensures.value) c.write_pair.ensures)
