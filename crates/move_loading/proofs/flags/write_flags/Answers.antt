-- `move_loading::flags::write_flags` meets its contract. Assumes nothing.
use Rattle.std.proofs.Common.{arith, replicate}
use Rattle.graph_slots.specs.Listing.{group_can, slot-lists}
use Rattle.move_loading.proofs.Flagging.{flags-none, flags_some}
use Rattle.move_loading.proofs.flags.write_flags.Goals as goal

pub group-requires : goal.group-requires
group-requires c = group_can c.requires.slots c.requires.lists

pub cyclic_component-requires : goal.cyclic_component-requires
cyclic_component-requires c = record { lists = slot-lists c.requires.slots c.requires.lists c.group.ensures; room = omega (arith, c.requires.slots.nodes) }

pub returns-then-cyclic_component : goal.returns-then-cyclic_component
returns-then-cyclic_component c = flags_some c.cyclic_component.ensures.value (replicate 1024 0) c.if-cyclic_component.true (omega (arith, c.requires.slots.nodes)) c.cyclic_component.ensures.flags_after c.copy.ensures

pub returns : goal.returns
returns c = flags-none c.cyclic_component.ensures.value c.if-cyclic_component.false
