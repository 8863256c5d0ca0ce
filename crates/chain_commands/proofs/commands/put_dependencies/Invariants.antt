-- The dependencies of the atoms up to k are named. Assumes nothing.
use Rattle.moves_replies.specs.Wrote.{Wrote}
use Rattle.chain_commands.specs.Commands.{in_turn, chain_link}
use Rattle.chain_commands.proofs.commands.put_dependencies.Given as goal

abbrev pub invariant-loop-k : goal.invariant-loop-k
invariant-loop-k l = Wrote (in_turn chain_link l.k) l.initial.replies l.replies
