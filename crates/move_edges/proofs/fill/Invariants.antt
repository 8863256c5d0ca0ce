-- `move_edges::fill` meets its contract. Assumes nothing.
use Rattle.std.proofs.Common.{◌≡◌, ◌≤◌}
use Rattle.graphs.specs.Slots.{cell}
use Rattle.move_edges.specs.Steps.{Grown, filled}
use Rattle.move_edges.proofs.fill.Given as goal

abbrev pub invariant-loop-k : goal.invariant-loop-k
invariant-loop-k l = record {
  steps : Grown (cell l.slots.sources.now l.slots.targets.now l.n) l.k l.initial.edges l.edges;
  told : l.found ≡ filled l.edges l.n;
  few : l.found ≤ l.k;
}
