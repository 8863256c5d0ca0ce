-- `move_slots::slots::write_slots` meets its contract. Assumes nothing.
use Rattle.move_slots.proofs.Slotting.{slots_source, slots_target}
use Rattle.move_slots.proofs.slots.write_slots.Goals as goal

pub returns : goal.returns
returns c =
    let v = c.entry_sources.ensures in
    let w = c.entry_targets.ensures in
    let x = c.facade_slots.ensures in
    record { sources_after = slots_source c.requires v w x.sources_after; targets_after = slots_target c.requires v w x.targets_after }
