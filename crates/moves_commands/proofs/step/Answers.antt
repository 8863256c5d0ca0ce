-- The byte is read, and then the command where it is complete. Assumes nothing.
use Rattle.moves_commands.specs.Fits.{taken-ready}
use Rattle.moves_commands.proofs.step.Goals as goal

pub execute-requires-clause-ready : goal.execute-requires-clause-ready
execute-requires-clause-ready c = taken-ready c.requires.ready c.args.b c.taken-reading.ensures
