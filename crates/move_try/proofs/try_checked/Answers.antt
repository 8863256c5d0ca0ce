-- `move_try::try_checked` meets its contract. Assumes nothing.
use Rattle.std.proofs.Common.{◌+◌, ◌*◌, refl, arith, get_or}
use Rattle.move_area.specs.Bodies.{atom_at}
use Rattle.move_try.specs.Tried.{try_room, try_from, try_outside, try_rejected, try_target, try_settle}
use Rattle.move_try.proofs.TriedLaws.{try_settled}
use Rattle.move_try.proofs.try_checked.Goals as goal

pub outside-requires : goal.outside-requires
outside-requires c =
    let a = c.args in
    (try_from c.requires (get_or a.area.now (atom_at a.n + a.atom) 0) refl, omega (arith, try_room c.requires))

pub returns-then-outside : goal.returns-then-outside
returns-then-outside c =
    let a = c.args in
    let s1 = try_outside c.requires (get_or a.area.now (atom_at a.n + a.atom) 0) refl c.outside.ensures in
    try_rejected c.requires s1 c.if-outside.true

pub registered_node-to-requires : goal.registered_node-to-requires
registered_node-to-requires c = let a = c.args in try_target c.requires (get_or a.area.now (a.n * a.n) 0) refl

pub settle-requires : goal.settle-requires
settle-requires c =
    let a = c.args in
    let t = c.registered_node-to.ensures in
    let s1 = try_outside c.requires (get_or a.area.now (atom_at a.n + a.atom) 0) refl c.outside.ensures in
    try_settle c.requires (get_or a.area.now (a.n * a.n) 0) refl t.first t.place s1 c.if-outside.false t.after

pub returns : goal.returns
returns c =
    let a = c.args in
    let t = c.registered_node-to.ensures in
    let s1 = try_outside c.requires (get_or a.area.now (atom_at a.n + a.atom) 0) refl c.outside.ensures in
    try_settled c.requires (get_or a.area.now (a.n * a.n) 0) refl t.first t.place s1 c.if-outside.false t.after c.settle.ensures
