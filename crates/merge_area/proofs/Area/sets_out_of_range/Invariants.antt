-- No set so far is out of range. Assumes nothing.
use Rattle.std.proofs.Common.{◌≡◌, false}
use Rattle.graphs.specs.Lists.{some_below}
use Rattle.merge_area.specs.Consistent.{out_of_range}
use Rattle.merge_area.proofs.Area.sets_out_of_range.Given as goal

abbrev pub invariant-loop-i : goal.invariant-loop-i
invariant-loop-i l = some_below (out_of_range l.self.sizes l.self.numbers.now) l.i ≡ false
