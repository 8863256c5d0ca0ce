-- `layout::compare::none_above`: what `fits` says of the numbers so far. Assumes nothing.
use Rattle.graphs.specs.Bools.{Decides}
use Rattle.layout.specs.Compare.{PartUpTo}
use Rattle.layout.proofs.compare.none_above.Given as goal

abbrev pub invariant-loop-x : goal.invariant-loop-x
invariant-loop-x l = Decides (PartUpTo l.list l.at l.x-index l.bound) l.fits
