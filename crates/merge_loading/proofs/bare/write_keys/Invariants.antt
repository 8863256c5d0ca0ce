-- The first k keys are written. Assumes nothing.
use Rattle.merge_loading.proofs.Laws.{Keying}
use Rattle.merge_loading.proofs.bare.write_keys.Given as goal

abbrev pub invariant-loop-k : goal.invariant-loop-k
invariant-loop-k l = Keying l.initial.area l.at l.c l.initial' l.k l.area
