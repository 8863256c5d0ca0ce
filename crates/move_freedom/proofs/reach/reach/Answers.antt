-- The lists are those of the slots' graph. Assumes nothing.
use Rattle.std.proofs.Common.{refl}
use Rattle.move_freedom.proofs.Reached.{reach_can, reach-done}
use Rattle.move_freedom.proofs.reach.reach.Goals as goal

pub reach-requires : goal.reach-requires
reach-requires c = reach_can c.requires refl refl c.group.ensures refl

pub returns : goal.returns
returns c = reach-done c.requires refl refl c.group.ensures c.reach.ensures
