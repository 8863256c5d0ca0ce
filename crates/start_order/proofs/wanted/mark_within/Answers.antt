-- The slots, their lists, the roots, the walk. Assumes nothing.
use Rattle.start_order.specs.Walked.{new_lists}
use Rattle.start_order.specs.Walking.{mark_fill, mark_group, mark_blank, mark_spread, mark_done}
use Rattle.start_order.proofs.wanted.mark_within.Goals as goal

pub fill_own_slots-requires : goal.fill_own_slots-requires
fill_own_slots-requires g c = mark_fill c.requires.can (new_lists c.requires.room)

pub group-requires : goal.group-requires
group-requires g c = mark_group c.requires.can (new_lists c.requires.room) c.fill_own_slots.ensures c.fill_own_slots.auto.sources c.fill_own_slots.auto.targets

pub roots-height-requires : goal.roots-height-requires
roots-height-requires g c = (c.requires.can.bit, mark_blank c.requires.can (new_lists c.requires.room) c.fill_own_slots.auto.counts)

pub spread-requires : goal.spread-requires
spread-requires g c = mark_spread c.requires.can (new_lists c.requires.room) c.fill_own_slots.ensures c.fill_own_slots.auto.sources c.fill_own_slots.auto.targets c.group.ensures c.roots-height.ensures

pub returns : goal.returns
returns g c = mark_done c.requires.can (new_lists c.requires.room) c.fill_own_slots.ensures c.fill_own_slots.auto.sources c.fill_own_slots.auto.targets c.group.ensures c.roots-height.ensures c.spread.ensures
