-- `graph_slots::flag_component` meets its contract. Assumes nothing.
use native.Mathlib.Omega.{arith}
use mathlib.Core.Path.{refl}
use Rattle.graph_slots.proofs.Turned.{only_can, only_slots}
use Rattle.graph_slots.proofs.flag_component.Goals as goal

pub group-requires : goal.group-requires
group-requires c =
    let p = c.requires.lists.slots in
    record {
      slots = p.slots;
      keys = omega (arith, p.sources, p.targets);
      values = omega (arith, p.sources, p.targets);
      rows = omega (arith, p.nodes);
      within = λ k h. omega (arith, p.ends.source k h, p.ends.target k h);
      room = omega (arith, p.slots);
    }

pub only_cyclic_component-requires : goal.only_cyclic_component-requires
only_cyclic_component-requires c = only_can c.requires refl refl c.group.ensures

pub returns : goal.returns
returns c = only_slots c.requires refl refl c.group.ensures c.only_cyclic_component.ensures
