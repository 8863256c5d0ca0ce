-- `move_fixed::keeps` meets its contract. Assumes nothing.
use Rattle.move_fixed.proofs.Flagging.{Told}
use Rattle.move_fixed.proofs.keeps.Given as goal

abbrev pub invariant-loop-atom : goal.invariant-loop-atom
invariant-loop-atom l = Told l.fixed l.from l.atom l.area.numbers.now
