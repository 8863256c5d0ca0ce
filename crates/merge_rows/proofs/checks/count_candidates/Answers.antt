-- One chunk more. Assumes nothing.
use Rattle.std.proofs.Common.{◌+◌, sym, arith}
use Rattle.graphs.specs.Count.{count_none, count_le}
use Rattle.merge_state.specs.Merges.{waits}
use Rattle.merge_area.specs.Read.{read}
use Rattle.merge_rows.proofs.Laws.{waiting-more, as_ind}
use Rattle.merge_rows.proofs.checks.count_candidates.Goals as goal

pub loop-x-init : goal.loop-x-init
loop-x-init c = sym (count_none _)

pub overflow_add-n : goal.overflow_add-n
overflow_add-n c = let e = waiting-more _ _ _ c.loop-x.invariant (as_ind c.from-n.ensures c.is_waiting.ensures) in omega (arith, e, count_le (waits (read c.args.area.now.sizes c.args.area.now.numbers.now)) (c.loop-x.x + 1))

pub loop-x-preserved : goal.loop-x-preserved
loop-x-preserved c = waiting-more _ _ _ c.loop-x.invariant (as_ind c.from-n.ensures c.is_waiting.ensures)
