-- One more atom. Assumes nothing.
use Rattle.std.proofs.Common.{refl, arith}
use Rattle.chain_commands.specs.Commands.{chain_atom}
use Rattle.chain_commands.proofs.Chaining.{turn-none, turn_more, turn-place}
use Rattle.chain_commands.proofs.commands.put_sets.Goals as goal

pub loop-i-init : goal.loop-i-init
loop-i-init c = turn-none chain_atom _ (omega arith)

pub put_atom-requires : goal.put_atom-requires
put_atom-requires c = let v = c.loop-i.invariant in omega (arith, v.put.long, turn-place chain_atom 3 _ (λ j. refl) v)

pub loop-i-preserved : goal.loop-i-preserved
loop-i-preserved c = turn_more chain_atom _ c.loop-i.invariant c.put_atom.ensures
