-- Nothing is named. Assumes nothing.
use Rattle.std.proofs.Common.{refl}
use Rattle.moves_commands.proofs.Interpreter.new.Goals as goal

pub returns : goal.returns
returns c = rw c.new.ensures refl
