-- `move_fixed::keep` meets its contract. Assumes nothing.
use Rattle.move_fixed.proofs.Flagging.{Written}
use Rattle.move_fixed.proofs.keep.Given as goal

abbrev pub invariant-loop-atom : goal.invariant-loop-atom
invariant-loop-atom l = Written l.fixed l.from l.atom l.initial.area l.area
