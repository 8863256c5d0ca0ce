-- The command's number, and its operand behind it. Assumes nothing.
use Rattle.moves_replies.specs.Wrote.{wrote_then}
use Rattle.chain_commands.proofs.commands.put_atom.Goals as goal

pub returns : goal.returns
returns c = wrote_then c.put.ensures c.put_operand.ensures
