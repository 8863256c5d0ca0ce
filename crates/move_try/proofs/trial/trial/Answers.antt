-- `move_try::trial::trial` meets its contract. Assumes nothing.
use Rattle.move_try.specs.Trial.{moved-nodes, fill_can, fill_done}
use Rattle.move_try.proofs.trial.trial.Goals as goal

pub fill_slots-requires : goal.fill_slots-requires
fill_slots-requires c = fill_can c.requires (moved-nodes c.requires c.copy_from_slice.ensures.after)

pub returns : goal.returns
returns c = fill_done c.requires (moved-nodes c.requires c.copy_from_slice.ensures.after) c.fill_slots.ensures
