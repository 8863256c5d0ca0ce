-- `write_lanes`: what is left to write is `Writing`. Assumes nothing.
use Rattle.std.proofs.Common.{arith}
use Rattle.entry_set.proofs.Writing.{writing_none, writing_more, writing_done}
use Rattle.entry_set.proofs.EntrySet.write_lanes.Goals as goal

pub loop-j-init : goal.loop-j-init
loop-j-init c = writing_none _ _ _ _

pub loop-j-preserved : goal.loop-j-preserved
loop-j-preserved c = writing_more c.loop-j.invariant (omega arith) c.word.ensures

pub returns : goal.returns
returns c = writing_done c.loop-j.invariant (omega arith)
