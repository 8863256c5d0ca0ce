-- `move_try::test::reaches_itself` meets its contract. Assumes nothing.
use Rattle.graph_neighbours.specs.Lists.{edge}
use Rattle.move_try.specs.Test.{itself-done}
use Rattle.move_try.proofs.test.reaches_itself.Goals as goal

pub returns-clause-value : goal.returns-clause-value
returns-clause-value c = itself-done c.requires (edge c.args.heads.now c.args.list.now c.args.n) c.mark.ensures
