-- `sets_are_distinct`: the sets so far are laid out. Assumes nothing.
use Rattle.std.proofs.Common.{arith}
use Rattle.equal_sets.specs.Laid.{laid_none, laid_held, laid_done, laid-distinct}
use Rattle.equal_sets.proofs.sets_are_distinct.Goals as goal

pub loop-i-init : goal.loop-i-init
loop-i-init g c key gives = laid_none key _ _

pub loop-i-preserved : goal.loop-i-preserved
loop-i-preserved g c key gives =
    laid_held (c.loop-i.invariant key gives) (omega (arith, c.requires.room.few)) c.requires.room.room (gives.of c.loop-i.i c.set.result (omega arith) c.set.ensures) c.write_lanes.ensures

pub returns : goal.returns
returns g c key gives = laid-distinct (laid_done (c.loop-i.invariant key gives) (omega arith)) c.distinct.ensures
