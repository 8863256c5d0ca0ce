-- None of the chunks so far was merged away. Assumes nothing.
use Rattle.merge_area.specs.Read.{read}
use Rattle.merge_state.specs.Merges.{gone}
use Rattle.graphs.specs.Lists.{some_below}
use lib.ListN.{get_or}
use mathlib.Core.Bool.{false}
use mathlib.Core.Path.{◌≡◌}
use Rattle.merge_rows.proofs.checks.some_gone.Given as goal

abbrev pub invariant-loop-x : goal.invariant-loop-x
invariant-loop-x l = (some_below (λ k. gone (read l.area.sizes l.area.numbers.now) (get_or l.l k 0)) l.x-index ≡ false)
