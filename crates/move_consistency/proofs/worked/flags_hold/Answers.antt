-- `move_consistency::worked::flags_hold` meets its contract. Assumes nothing.
use Rattle.std.proofs.Common.{arith, replicate}
use Rattle.move_consistency.proofs.Flagging.{flags-found}
use Rattle.move_consistency.proofs.worked.flags_hold.Goals as goal

pub returns : goal.returns
returns c = let f = c.cyclic_component-cyclic.ensures in flags-found _ _ (replicate 1024 0) (omega (arith, c.requires.lists.slots.nodes)) f.value f.flags_after c.from.ensures c.flags_are.ensures
