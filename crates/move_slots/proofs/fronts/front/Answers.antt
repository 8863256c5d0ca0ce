-- `move_slots::fronts::front` meets its contract. Assumes nothing.
use Rattle.std.proofs.Common.{arith, ap, ◌∙◌}
use Rattle.entry_set.specs.Sets.{single_bit}
use Rattle.move_slots.proofs.Fronting.{front-other, front-found}
use Rattle.move_slots.proofs.fronts.front.Goals as goal

pub returns-then-bit-out : goal.returns-then-bit-out
returns-then-bit-out c = front-found (c.in-Some.ensures.bit ∙ ap single_bit c.read_lanes.ensures.value) _ c.requires.bits (omega arith) (omega arith)

pub returns-else-bit-out : goal.returns-else-bit-out
returns-else-bit-out c = front-other (c.in-Some.ensures.bit ∙ ap single_bit c.read_lanes.ensures.value) _ c.requires.bits (omega arith)

pub returns-in_default : goal.returns-in_default
returns-in_default c = front-other (c.in_default.ensures.bit ∙ ap single_bit c.read_lanes.ensures.value) _ c.requires.bits c.requires.bits
