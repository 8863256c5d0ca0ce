-- None of the ends so far was merged itself. Assumes nothing.
use Rattle.std.proofs.Common.{◌≡◌, false, not, eqb, get_or}
use Rattle.graphs.specs.Lists.{some_below}
use Rattle.merge_state.specs.State.{None}
use Rattle.merge_area.specs.Read.{into_in}
use Rattle.merge_area.proofs.merges.some_left.Given as goal

abbrev pub invariant-loop-end : goal.invariant-loop-end
invariant-loop-end l = some_below (λ y. not (eqb (into_in l.fn.sizes l.area (get_or l.ends y 0)) None)) l.end-index ≡ false
