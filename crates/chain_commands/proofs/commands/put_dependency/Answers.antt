-- The command's number, and its two operands behind it. Assumes nothing.
use Rattle.moves_replies.specs.Wrote.{wrote_then}
use Rattle.chain_commands.proofs.commands.put_dependency.Goals as goal

pub returns : goal.returns
returns c = wrote_then (wrote_then c.put.ensures c.put_operand.ensures) c.put_operand-2.ensures
