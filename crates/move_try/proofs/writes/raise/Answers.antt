-- `move_try::writes::raise`: the marks lane is lent to the walk's start, and comes back as a patch. Assumes nothing.
use Rattle.std.proofs.Common.{arith}
use Rattle.move_try.specs.Areas.{raised-done}
use Rattle.move_try.proofs.writes.raise.Goals as goal

pub returns-clause-area_after : goal.returns-clause-area_after
returns-clause-area_after c = raised-done c.args.n c.args.area.now (omega (arith, c.requires)) c.begin-counter.ensures.0 c.begin-counter.ensures.1 c.begin-counter.auto.marks
