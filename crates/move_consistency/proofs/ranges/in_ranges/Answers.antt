-- `move_consistency::ranges::in_ranges` meets its contract. Assumes nothing.
use Rattle.std.proofs.Common.{arith}
use Rattle.move_consistency.proofs.Ranging.{range_done}
use Rattle.move_consistency.proofs.ranges.in_ranges.Goals as goal

pub returns : goal.returns
returns c = range_done (omega arith) c.sort.ensures c.all_below-nodes_fit.ensures c.none_above-marks_fit.ensures c.sets_in_range-sets_fit.ensures c.distinct-apart.ensures
