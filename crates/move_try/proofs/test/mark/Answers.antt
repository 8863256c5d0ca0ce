-- `move_try::test::mark`: the marks lane is lent to the walk, and comes back. Assumes nothing.
use Rattle.graph_neighbours.specs.Lists.{edge}
use Rattle.move_try.specs.Test.{mark_done}
use Rattle.move_try.proofs.test.mark.Goals as goal

pub returns : goal.returns
returns c = mark_done c.requires (edge c.args.heads.now c.args.list.now c.args.n) c.reach.ensures
