-- `move_fixed::keep` meets its contract. Assumes nothing.
use Rattle.std.proofs.Common.{arith}
use Rattle.move_fixed.proofs.Flagging.{written_none, written_more, kept_is}
use Rattle.move_fixed.proofs.keep.Goals as goal

pub loop-atom-init : goal.loop-atom-init
loop-atom-init c = written_none

pub loop-atom-preserved : goal.loop-atom-preserved
loop-atom-preserved c = written_more c.loop-atom.invariant (omega arith) c.from.ensures

pub returns : goal.returns
returns c = kept_is _ (omega arith) c.loop-atom.invariant
