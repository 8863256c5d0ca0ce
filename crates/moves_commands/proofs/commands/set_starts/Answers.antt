-- The starts in use are a part of the list. Assumes nothing.
use Rattle.std.proofs.Common.{arith}
use Rattle.moves_commands.proofs.Turns.{starts_set}
use Rattle.moves_commands.proofs.commands.set_starts.Goals as goal

pub returns : goal.returns
returns c =
    let f = c.requires in
    starts_set _ _ _ _ (omega (arith, f.entries, f.roomy.for_sources)) (omega (arith, f.atoms, f.for_starts)) c.fill_starts.ensures
