-- The digits up to b are read. Assumes nothing.
use Rattle.std.proofs.Common.{◌≡◌, Some, drop}
use Rattle.chain_commands.specs.Parse.{value}
use Rattle.chain_commands.proofs.number.value.Given as goal

abbrev pub invariant-loop-b : goal.invariant-loop-b
invariant-loop-b l = value (Some l.v) (drop l.b-index l.text) ≡ value (Some 0) l.text
