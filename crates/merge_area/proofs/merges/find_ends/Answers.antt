-- One step, and ten rounds that each lead twice as far. Assumes nothing.
use Rattle.std.proofs.Common.{◌≡◌, length, arith}
use Rattle.merge_area.proofs.Merging.{rounds_none, rounds_more, rounds_done}
use Rattle.merge_area.proofs.merges.find_ends.Goals as goal

pub loop-round-init : goal.loop-round-init
loop-round-init c = rounds_none _ _ c.take_step.ensures.inside

pub double-requires : goal.double-requires
double-requires c = let e : length c.loop-round.ends ≡ length c.args.ends.now = omega arith in rw e c.loop-round.invariant.inside

pub loop-round-preserved : goal.loop-round-preserved
loop-round-preserved c = let e : length c.loop-round.ends ≡ length c.args.ends.now = omega arith in rounds_more _ _ c.loop-round.invariant (rw e at c.double.ensures) c.double.auto.ends

pub returns : goal.returns
returns c = rounds_done _ _ _ c.loop-round.invariant (omega arith) c.take_step.ensures
