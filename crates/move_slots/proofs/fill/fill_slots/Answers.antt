-- `move_slots::fill::fill_slots` meets its contract. Assumes nothing.
use Rattle.std.proofs.Common.{arith, length-take-le}
use Rattle.move_slots.proofs.Filling.{fill_done}
use Rattle.move_slots.proofs.fill.fill_slots.Goals as goal

pub returns : goal.returns
returns c = fill_done c.requires _ (length-take-le _ _ c.requires.counts_long) c.tally.ensures _ (length-take-le _ _ (omega (arith, c.requires.loadable.sizes.bits))) c.facades.ensures c.write_slots.ensures.sources_after c.write_slots.ensures.targets_after
