-- Each turn meets the edges of one more node. Assumes nothing.
use Rattle.std.proofs.Common.{◌≡◌, arith}
use Rattle.graph_components.proofs.Meets.{met-none}
use Rattle.graph_components.proofs.within.Goals as goal

pub loop-x-init : goal.loop-x-init
loop-x-init c = met-none

pub loop-x-preserved : goal.loop-x-preserved
loop-x-preserved c = c.inner-found.ensures

pub returns : goal.returns
returns c = let z : c.loop-x.x ≡ c.args.n = omega arith in rw z at c.loop-x.invariant
