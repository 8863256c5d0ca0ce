-- How many of the chunks so far wait. Assumes nothing.
use Rattle.merge_area.specs.Read.{read}
use Rattle.merge_state.specs.Merges.{waits}
use Rattle.graphs.specs.Count.{count}
use mathlib.Core.Path.{◌≡◌}
use Rattle.merge_rows.proofs.checks.count_candidates.Given as goal

abbrev pub invariant-loop-x : goal.invariant-loop-x
invariant-loop-x l = (l.n ≡ count (waits (read l.area.sizes l.area.numbers.now)) l.x)
