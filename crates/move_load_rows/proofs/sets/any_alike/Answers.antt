-- `move_load_rows::sets::any_alike` meets its contract. Assumes nothing.
use Rattle.move_load_rows.proofs.SetLaws.{alike_is}
use Rattle.move_load_rows.proofs.sets.any_alike.Goals as goal

pub returns : goal.returns
returns c = alike_is _ _ c.set_width.ensures c.are_distinct.ensures
