-- The first i numbers are written. Assumes nothing.
use Rattle.layout.proofs.Writes.{Copying}
use Rattle.layout.proofs.copy.Given as goal

abbrev pub invariant-loop-i : goal.invariant-loop-i
invariant-loop-i l = Copying l.initial.area l.at l.from l.start l.k l.i l.area
