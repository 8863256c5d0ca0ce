-- What the interpreter took is a turn's, whether or not its replies could be written. Assumes nothing.
use Rattle.std.proofs.Common.{true, false, arith}
use Rattle.moves.proofs.Turning.{answered}
use Rattle.moves.proofs.feed_once.Goals as goal

pub returns-then-is_err : goal.returns-then-is_err
returns-then-is_err c =
    let f = c.feed-fed.ensures in
    answered _ c.requires.ready (c.requires.input_nonzero, omega arith) f.fed_to f.used_in_bounds false

pub returns : goal.returns
returns c =
    let f = c.feed-fed.ensures in
    answered _ c.requires.ready (c.requires.input_nonzero, omega arith) f.fed_to f.used_in_bounds true
