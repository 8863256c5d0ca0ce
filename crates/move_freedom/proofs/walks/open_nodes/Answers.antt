-- The flags are those of the two walks. Assumes nothing.
use Rattle.std.proofs.Common.{length, rules, tests}
use Rattle.move_freedom.specs.Steps.{leaves}
use Rattle.move_freedom.proofs.Walking.{forth_can, back_can, opened}
use Rattle.move_freedom.proofs.walks.open_nodes.Goals as goal

pub reach-requires : goal.reach-requires
reach-requires c = forth_can c.requires

pub reach-requires-2 : goal.reach-requires-2
reach-requires-2 c = back_can c.requires

pub returns : goal.returns
returns c =
    let out = c.flag_targets.ensures (leaves (length c.args.counts.now)) (λ u v r p. search (rules, tests)) in
    opened c.requires c.reach.ensures c.reach-2.ensures c.steps.ensures c.steps-2.ensures out c.args.own c.open_nodes.ensures
