-- `move_edges::gain_all` meets its contract. Assumes nothing.
use Rattle.std.proofs.Common.{◌≡◌, ◌+◌, ◌≤◌}
use Rattle.move_edges.specs.Steps.{Grown, gained, filled}
use Rattle.move_edges.proofs.gain_all.Given as goal

abbrev pub invariant-loop-k : goal.invariant-loop-k
invariant-loop-k l = record {
  steps : Grown (gained l.old.sources.now l.old.targets.now l.new.sources.now l.new.targets.now l.n) l.k l.initial.edges l.edges;
  told : l.found + filled l.initial.edges l.n ≡ filled l.edges l.n;
  few : l.found ≤ l.k;
}
