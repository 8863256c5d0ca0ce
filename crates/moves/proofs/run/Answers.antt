-- A read more, until the machine has stopped. Assumes nothing.
use Rattle.std.proofs.Common.{◌+◌, ◌%◌, ◌^◌, ap, arith}
use Rattle.moves.specs.Turns.{begun}
use Rattle.moves.proofs.Turning.{reading-ready, reading-out, reading-ends, reading_on, fresh-ready}
use Rattle.moves.proofs.run.Goals as goal

pub loop-init : goal.loop-init
loop-init c = rw c.requires begun

pub read_block-block-requires : goal.read_block-block-requires
read_block-block-requires c = reading-ready c.loop.invariant (fresh-ready c.args.area.now)

pub returns-then-reading : goal.returns-then-reading
returns-then-reading c =
    let r = c.read_block-block.ensures in
    reading-ends c.loop.invariant c.read_block-block.result.taken _ r.took_read r.in_bounds (ap (λ m. (c.loop.bytes + m) % 2 ^ 64) c.unwrap_or.ensures) c.if-reading.true

pub loop-preserved : goal.loop-preserved
loop-preserved c =
    let r = c.read_block-block.ensures in
    reading_on c.loop.invariant c.read_block-block.result.taken _ r.took_read r.in_bounds (ap (λ m. (c.loop.bytes + m) % 2 ^ 64) c.unwrap_or.ensures) c.if-reading.false

pub returns : goal.returns
returns c = reading-out c.loop.invariant (omega arith)
