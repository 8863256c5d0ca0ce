-- The reads so far came one after the other. Assumes nothing.
use Rattle.std.proofs.Common.{true}
use Rattle.moves_commands.specs.Program.{fresh}
use Rattle.moves_commands.specs.Steps.{lent_held}
use Rattle.moves.specs.Turns.{Ran}
use Rattle.moves.proofs.run.Given as goal

abbrev pub invariant-loop : goal.invariant-loop
invariant-loop l = Ran (fresh l.initial.area) l.counter l.bytes (lent_held l.reading l.starts l.area) true
