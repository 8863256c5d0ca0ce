-- The word of the bit. Assumes nothing.
use Rattle.std.proofs.Common.{sym, ap, ◌∙◌, ◌+◌, ne_eqb}
use mathlib.Core.Bool.{not, ◌&&◌}
use Rattle.entry_set.specs.Lanes.{lanes}
use Rattle.move_area.specs.Bodies.{lane_at}
use Rattle.move_order.specs.Order.{holds}
use Rattle.start_order.specs.Bits.{holds_word}
use Rattle.start_order.proofs.nodes.Nodes.is_root.Goals as goal

pub returns-then-self-lanes-ne0 : goal.returns-then-self-lanes-ne0
returns-then-self-lanes-ne0 c =
    let area = c.args.self.now.area.numbers.now in
    let n = c.args.self.now.area.n in
    c.has_bit.ensures.value ∙ holds_word area n c.args.bit c.args.x c.has_bit.ensures.words c.requires.0
    ∙ sym (ap (λ t. not t && holds c.args.bit (lanes area (lane_at n 0 + c.args.x) n)) (ne_eqb _ _ c.if-self-lanes-ne0.true))
