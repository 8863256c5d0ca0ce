-- One more dependency. Assumes nothing.
use Rattle.std.proofs.Common.{refl, arith}
use Rattle.chain_commands.specs.Commands.{chain_link}
use Rattle.chain_commands.proofs.Chaining.{turn-none, turn_more, turn-place}
use Rattle.chain_commands.proofs.commands.put_dependencies.Goals as goal

pub loop-k-init : goal.loop-k-init
loop-k-init c = turn-none chain_link _ (omega arith)

pub put_dependency-requires : goal.put_dependency-requires
put_dependency-requires c = let v = c.loop-k.invariant in omega (arith, v.put.long, turn-place chain_link 5 _ (λ j. refl) v)

pub loop-k-preserved : goal.loop-k-preserved
loop-k-preserved c = turn_more chain_link _ c.loop-k.invariant c.put_dependency.ensures
