-- `move_places::smallest_empty` meets its contract. Assumes nothing.
use Rattle.std.proofs.Common.{rules}
use Rattle.move_places.specs.Least.{least_none, least_more}
use Rattle.move_places.proofs.smallest_empty.Goals as goal

pub loop-x-init : goal.loop-x-init
loop-x-init c = record { least = least_none _ _ _; inside = search rules }

pub loop-x-preserved : goal.loop-x-preserved
loop-x-preserved c = record { least = least_more c.loop-x.invariant.least c.loop-x-test.true c.choose-best.ensures.value; inside = c.choose-best.ensures.inside }
