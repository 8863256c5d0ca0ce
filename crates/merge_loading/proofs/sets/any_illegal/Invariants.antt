-- No set passed so far is illegal. Assumes nothing.
use Rattle.std.proofs.Common.{◌≡◌, false, not}
use Rattle.graphs.specs.Lists.{some_below}
use Rattle.entry_set.specs.Sets.{legal}
use Rattle.merge_state.specs.Loading.{set_at}
use Rattle.merge_loading.proofs.sets.any_illegal.Given as goal

abbrev pub invariant-loop-i : goal.invariant-loop-i
invariant-loop-i l = some_below (λ j. not (legal l.e (set_at l.w l.sets j))) l.i ≡ false
