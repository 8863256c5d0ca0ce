-- The three parts, one behind the other. Assumes nothing.
use Rattle.std.proofs.Common.{refl, arith}
use Rattle.chain_commands.specs.Commands.{chain_atom, chain_link}
use Rattle.chain_commands.proofs.Chaining.{turn-place, chain-put}
use Rattle.chain_commands.proofs.commands.put_chain.Goals as goal

pub put_dependencies-requires : goal.put_dependencies-requires
put_dependencies-requires c = let s = c.put_sets.ensures in (omega arith, omega (arith, s.put.long, turn-place chain_atom 3 _ (λ j. refl) s))

pub put_move-requires : goal.put_move-requires
put_move-requires c =
    let s = c.put_sets.ensures in
    let d = c.put_dependencies.ensures in
    omega (arith, s.put.long, d.put.long, turn-place chain_atom 3 _ (λ j. refl) s, turn-place chain_link 5 _ (λ j. refl) d)

pub returns : goal.returns
returns c = chain-put c.args.n c.put_sets.ensures c.put_dependencies.ensures c.put_move.ensures
