-- The slots up to k are written. Assumes nothing.
use Rattle.move_freedom.specs.Rest.{BlankedTo}
use Rattle.move_freedom.proofs.rest.blanks.Given as goal

abbrev pub invariant-loop-k : goal.invariant-loop-k
invariant-loop-k l = BlankedTo l.slots.sources.now l.slots.targets.now l.z l.k l.initial.sources l.initial.targets l.sources l.targets
