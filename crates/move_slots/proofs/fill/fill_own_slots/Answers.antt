-- `move_slots::fill::fill_own_slots` meets its contract. Assumes nothing.
use Rattle.move_slots.proofs.Filling.{own_done}
use Rattle.move_slots.proofs.fill.fill_own_slots.Goals as goal

pub returns : goal.returns
returns c = own_done c.requires c.nodes-nodes.ensures c.fill_slots.ensures
