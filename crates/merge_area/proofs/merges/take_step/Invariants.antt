-- One step is taken from the chunks below x. Assumes nothing.
use Rattle.std.proofs.Common.{length}
use Rattle.merge_area.specs.Read.{into_in}
use Rattle.merge_area.proofs.Merging.{Stepped}
use Rattle.merge_area.proofs.merges.take_step.Given as goal

abbrev pub invariant-loop-x : goal.invariant-loop-x
invariant-loop-x l = Stepped (into_in l.fn.sizes l.area) (length l.initial.ends) l.x l.initial.ends l.ends
