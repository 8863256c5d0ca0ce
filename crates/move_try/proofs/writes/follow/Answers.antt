-- `move_try::writes::follow`: the square is lent to `update`, and comes back as a patch. Assumes nothing.
use Rattle.move_try.specs.Commit.{followed}
use Rattle.move_try.proofs.writes.follow.Goals as goal

pub returns-clause-area_after : goal.returns-clause-area_after
returns-clause-area_after c = followed c.requires c.update.ensures.edges_after
