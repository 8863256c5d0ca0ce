-- The pass as far as it has come. Assumes nothing.
use Rattle.std.proofs.Common.{◌≡◌}
use Rattle.merge_area.specs.Layout.{cell, head}
use Rattle.merge_pass.specs.Going.{Going}
use Rattle.merge_pass.proofs.commit.Given as goal

abbrev pub invariant-loop-k : goal.invariant-loop-k
invariant-loop-k l = (l.made ≡ cell l.initial.area (head l.sizes 1)) × Going l.sizes l.initial.area l.proposals l.bars l.initial.kinds l.initial.numbers l.k l.j l.area l.kinds l.numbers
