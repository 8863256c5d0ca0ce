-- The counts and the facades are those of the nodes. Assumes nothing.
use Rattle.std.proofs.Common.{arith, ◌∙◌, length-take-le, get_or-take}
use Rattle.move_freedom.proofs.Asides.{fill_members, fill_many, fill_done}
use Rattle.move_freedom.proofs.aside.fill.Goals as goal

pub returns : goal.returns
returns c =
    let r = c.requires in
    fill_done r _ (fill_many r _ (length-take-le _ _ (omega (arith, r.few, r.loadable.sizes.sets))) c.tally.ensures)
    (λ x b. get_or-take _ _ x 0 b ∙ fill_members r _ (length-take-le _ _ (omega (arith, r.few, r.loadable.sizes.sets))) c.tally.ensures x (omega arith))
    _ (length-take-le _ _ (omega (arith, r.loadable.sizes.bits))) c.facades.ensures c.write_slots.ensures.sources_after c.write_slots.ensures.targets_after
