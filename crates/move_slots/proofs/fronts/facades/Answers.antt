-- `move_slots::fronts::facades` meets its contract. Assumes nothing.
use Rattle.std.proofs.Common.{arith, rules, refl, length, ap, ◌∙◌}
use Rattle.graphs.specs.Tab.{is_tab}
use Rattle.move_ledger.specs.Nodes.{highest}
use Rattle.move_slots.specs.Facades.{fronts_in}
use Rattle.move_slots.proofs.Fronting.{fronts-none, fronts-more}
use Rattle.move_slots.proofs.fronts.facades.Goals as goal

pub loop-x-init : goal.loop-x-init
loop-x-init c = fronts-none _ _ _ _ (length c.args.out.now) (search rules)

pub loop-x-preserved : goal.loop-x-preserved
loop-x-preserved c = fronts-more _ _ _ _ c.front.ensures refl c.loop-x.invariant

pub returns : goal.returns
unfolding fronts_in
returns c = is_tab _ _ _ (omega (arith, c.fill.ensures.len)) (λ b h. c.loop-x.invariant b (omega (arith, c.fill.ensures.len)) ∙ ap (highest _) (omega arith))
