-- The numbers below y of both rows are done. Assumes nothing.
use Rattle.merge_laws.specs.Merging.{Half}
use Rattle.merge_dependencies.proofs.merge_rows.Given as goal

abbrev pub invariant-loop-y : goal.invariant-loop-y
invariant-loop-y l = Half l.initial.flags l.c l.target l.source l.flags l.y
