-- A turn more, or the last. Assumes nothing.
use Rattle.start_order.specs.Running.{run_none, run_seek, run_end, run_full, run_take}
use Rattle.start_order.proofs.Running.{run_more}
use Rattle.std.proofs.Common.{arith}
use Rattle.start_order.proofs.turns.list.Goals as goal

pub loop-k-init : goal.loop-k-init
loop-k-init c = λ s can. run_none can

pub seek-requires : goal.seek-requires
seek-requires c = run_seek c.requires.1 c.loop-k.auto.marks c.loop-k.auto.degrees

pub returns-in_default : goal.returns-in_default
returns-in_default c = λ s can. run_end can (c.loop-k.invariant s can) c.in_default.ensures

pub take-requires : goal.take-requires
take-requires c = run_take c.requires.1 (c.loop-k.invariant c.requires.0 c.requires.1) c.in-Some.ensures c.loop-k-test.true c.loop-k.auto.marks c.loop-k.auto.degrees c.loop-k.auto.chunks

pub loop-k-preserved : goal.loop-k-preserved
loop-k-preserved c = λ s can. run_more can (c.loop-k.invariant s can) c.in-Some.ensures c.loop-k-test.true c.loop-k.auto.marks c.loop-k.auto.degrees c.loop-k.auto.chunks c.take.ensures

pub returns : goal.returns
returns c = λ s can. run_full can (c.loop-k.invariant s can) (omega arith)
