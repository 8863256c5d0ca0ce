-- `move_slots::slots::tally` meets its contract. Assumes nothing.
use native.Mathlib.Omega.{arith}
use Rattle.std.proofs.Common.{rules, length, ◌∙◌, ap}
use Rattle.graphs.specs.Tab.{is_tab}
use Rattle.move_slots.specs.Slots.{atoms}
use Rattle.move_slots.proofs.Tallying.{tally_none, tally_room, tally_more}
use Rattle.move_slots.proofs.slots.tally.Goals as goal

pub loop-node-init : goal.loop-node-init
loop-node-init c = tally_none _ (length c.args.counts.now) (search rules)

pub overflow_add-counts : goal.overflow_add-counts
overflow_add-counts c = omega (arith, tally_room _ c.requires c.loop-node.invariant c.loop-node-test.true (omega (arith, c.requires.within c.loop-node.node-index c.loop-node-test.true, c.fill.ensures.len)))

pub loop-node-preserved : goal.loop-node-preserved
loop-node-preserved c = tally_more c.args.nodes.now c.loop-node.node-index _ c.loop-node.invariant

pub returns : goal.returns
returns c = is_tab _ _ _ (omega (arith, c.fill.ensures.len)) (λ x h. c.loop-node.invariant x (omega (arith, c.fill.ensures.len)) ∙ ap (λ k. atoms c.args.nodes.now k x) (omega arith))
