-- One more atom. Assumes nothing.
use Rattle.std.proofs.Common.{refl, arith}
use Rattle.move_freedom.proofs.AtomCounts.{counted_zero, counted_next}
use Rattle.move_freedom.proofs.atoms.of_all.Goals as goal

pub loop-atom-init : goal.loop-atom-init
loop-atom-init c = record { counted = counted_zero _ _ _; few = omega arith }

pub loop-atom-preserved : goal.loop-atom-preserved
loop-atom-preserved c = record { counted = counted_next c.loop-atom.invariant.counted c.of_atom-one.ensures refl refl refl refl; few = omega (arith, c.of_atom-one.ensures.sum, c.requires.few) }
