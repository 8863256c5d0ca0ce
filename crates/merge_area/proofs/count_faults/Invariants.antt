-- As many as misfit among the numbers so far. Assumes nothing.
use Rattle.std.proofs.Common.{◌≡◌, ◌+◌, take, count_by}
use Rattle.std.specs.List.{between}
use Rattle.merge_state.specs.State.{misfit}
use Rattle.merge_area.proofs.count_faults.Given as goal

abbrev pub invariant-loop-number : goal.invariant-loop-number
invariant-loop-number l = l.faults ≡ count_by (misfit l.top l.free) (take l.number-index (between l.at (l.at + l.n) l.list))
