-- What stood from the place on is one further up, behind the new number. Assumes nothing.
use Rattle.moves_load_commands.proofs.Lists.{inserted-turned}
use Rattle.moves_load_commands.proofs.insert.Goals as goal

pub returns : goal.returns
returns c = inserted-turned _ _ _ _ _ c.requires.0 c.requires.1 c.rotate_right.ensures.len c.rotate_right.ensures.by_index
