-- The atoms up to i are named. Assumes nothing.
use Rattle.moves_replies.specs.Wrote.{Wrote}
use Rattle.chain_commands.specs.Commands.{in_turn, chain_atom}
use Rattle.chain_commands.proofs.commands.put_sets.Given as goal

abbrev pub invariant-loop-i : goal.invariant-loop-i
invariant-loop-i l = Wrote (in_turn chain_atom l.i) l.initial.replies l.replies
