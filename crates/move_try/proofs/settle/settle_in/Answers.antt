-- `move_try::settle::settle_in` meets its contract. Assumes nothing.
use Rattle.std.proofs.Common.{arith}
use Rattle.move_try.specs.Settle.{settle_trial, settle_test, settle_rejected, settle_reach, settle_fill, settle_commit, settle_accepted}
use Rattle.move_try.proofs.Rooms.{counts_room, heads_room, slots_room, lists_room}
use Rattle.move_try.proofs.settle.settle_in.Goals as goal

pub trial-requires : goal.trial-requires
trial-requires g c = let r = c.requires in settle_trial r.can (counts_room r.room) (slots_room r.room) (slots_room r.room)

pub closes_cycle-requires : goal.closes_cycle-requires
closes_cycle-requires g c =
    let r = c.requires in
    let t = c.trial in
    (settle_test r.can t.ensures _ (omega arith) (omega (arith, slots_room r.room, t.auto.sources)) (omega (arith, slots_room r.room, t.auto.targets)), lists_room r.room _ (omega arith))

pub returns-then-closes_cycle : goal.returns-then-closes_cycle
returns-then-closes_cycle g c = let t = c.closes_cycle.ensures in settle_rejected c.requires.can c.trial.ensures (t.value, t.area_after) c.if-closes_cycle.true

pub reached-reached-requires : goal.reached-reached-requires
reached-reached-requires g c = let t = c.closes_cycle.ensures in settle_reach c.requires.can c.trial.ensures (t.value, t.area_after) t.slot_lists

pub fill_own_slots-requires : goal.fill_own_slots-requires
fill_own_slots-requires g c =
    let r = c.requires in
    let t = c.closes_cycle in
    settle_fill r.can c.trial.ensures (t.ensures.value, t.ensures.area_after) (omega (arith, heads_room r.room, t.auto.heads)) (omega (arith, slots_room r.room, t.auto.list)) (slots_room r.room)

pub commit-changes-requires : goal.commit-changes-requires
commit-changes-requires g c =
    let r = c.requires in
    let t = c.closes_cycle in
    let f = c.fill_own_slots in
    settle_commit r.can c.trial.ensures (t.ensures.value, t.ensures.area_after) f.ensures (omega (arith, counts_room r.room, c.trial.auto.counts))
    (omega (arith, slots_room r.room, c.trial.auto.sources)) (omega (arith, slots_room r.room, c.trial.auto.targets))
    (omega (arith, slots_room r.room, t.auto.list, f.auto.sources)) (omega (arith, slots_room r.room, f.auto.targets))

pub returns : goal.returns
returns g c =
    let t = c.closes_cycle.ensures in
    let w = c.commit-changes.ensures in
    settle_accepted c.requires.can c.trial.ensures (t.value, t.area_after) c.fill_own_slots.ensures c.if-closes_cycle.false t.slot_lists c.reached-reached.ensures w.changed w.area_after
