-- No row so far has a fault. Assumes nothing.
use Rattle.std.proofs.Common.{◌≡◌, false}
use Rattle.graphs.specs.Lists.{some_below}
use Rattle.merge_area.specs.Consistent.{row_fault}
use Rattle.merge_area.specs.Layout.{cell, head}
use Rattle.merge_area.proofs.Area.flags_have_fault.Given as goal

abbrev pub invariant-loop-x : goal.invariant-loop-x
invariant-loop-x l = some_below (row_fault l.self.numbers.now l.self.sizes.chunks (cell l.self.numbers.now (head l.self.sizes 1))) l.x ≡ false
