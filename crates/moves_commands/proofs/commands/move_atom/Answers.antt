-- The moved atom's graph is kept. Assumes nothing.
use Rattle.std.proofs.Common.{arith}
use Rattle.std.proofs.lemmas.Grind.{common_steps}
use Rattle.moves_replies.specs.Wrote.{wrote_as}
use Rattle.moves_commands.specs.Program as def
use Rattle.moves_commands.proofs.commands.move_atom.Goals as goal

pub returns-clause-stepped : goal.returns-clause-stepped
unfolding def.move
returns-clause-stepped c = grind (arith, common_steps, wrote_as)
