-- `move_slots::slots::facade_ends` meets its contract. Assumes nothing.
use Rattle.std.proofs.Common.{refl}
use Rattle.move_ledger.specs.Nodes.{face_source, face_target}
use Rattle.move_slots.proofs.Slotting.{faced-yes, faced_no_front, faced-no_host}
use Rattle.move_slots.proofs.slots.facade_ends.Goals as goal
use Rattle.move_slots.proofs.slots.facade_ends.Goals.{then-facade-eq-NONE-via-then-facade-eq-NONE, then-facade-eq-NONE-via-else-facade-eq-NONE+then-host-eq-NONE}

pub returns-then-facade-eq-NONE : goal.returns-then-facade-eq-NONE
unfolding face_source face_target
returns-then-facade-eq-NONE c =
    let g = c.args in
    elim c.then-facade-eq-NONE.branch [
      | then-facade-eq-NONE-via-then-facade-eq-NONE w ↦ let y = faced_no_front g.facade g.host w.if-facade-eq-NONE.true in record { source = rw y refl; target = rw y refl }
      | then-facade-eq-NONE-via-else-facade-eq-NONE+then-host-eq-NONE w ↦ let y = faced-no_host g.facade g.host w.if-host-eq-NONE.true in record { source = rw y refl; target = rw y refl }
    ]

pub returns : goal.returns
unfolding face_source face_target
returns c = let y = faced-yes c.args.facade c.args.host c.if-facade-eq-NONE.false c.if-host-eq-NONE.false in record { source = rw y refl; target = rw y refl }
