-- A turn takes the next bytes of the block. Assumes nothing.
use Rattle.std.proofs.Common.{arith}
use Rattle.moves.proofs.Turning.{took_none, still_ready, then_took, stops, ends}
use Rattle.moves.proofs.feed_block.Goals as goal

pub loop-at-init : goal.loop-at-init
loop-at-init c = took_none

pub feed_once-requires-clause-ready : goal.feed_once-requires-clause-ready
feed_once-requires-clause-ready c = still_ready c.loop-at.invariant c.requires

pub returns-in-Err : goal.returns-in-Err
returns-in-Err c = stops c.loop-at.invariant (rw c.in-Err.is at c.feed_once.ensures)

pub loop-at-preserved : goal.loop-at-preserved
loop-at-preserved c = then_took c.loop-at.invariant (rw c.in-Ok.is at c.feed_once.ensures)

pub returns : goal.returns
returns c = ends c.loop-at.invariant _ (omega arith)
