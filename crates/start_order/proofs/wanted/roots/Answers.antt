-- A node more, or none. Assumes nothing.
use Rattle.std.proofs.Common.{arith, sym, ◌∙◌}
use Rattle.start_order.specs.Roots.{roots_none, roots_can, roots_same, roots_more}
use Rattle.start_order.proofs.wanted.roots.Goals as goal
use Rattle.start_order.proofs.wanted.roots.Goals.{then-is_root, else-is_root}

pub loop-x-init : goal.loop-x-init
loop-x-init c = roots_none _ c.requires.1

pub look-height-requires : goal.look-height-requires
look-height-requires c = roots_can c.loop-x.invariant (omega arith)

pub loop-x-preserved : goal.loop-x-preserved
loop-x-preserved c =
    elim c.if-is_root.branch [
      | then-is_root w ↦ rw (w.marks-is, w.stack-is, w.height-is) (roots_more c.loop-x.invariant (omega arith) (sym c.is_root.ensures ∙ w.if-is_root.true) w.look-height.ensures)
      | else-is_root w ↦ rw (w.marks-is, w.stack-is, w.height-is) (roots_same c.loop-x.invariant (omega arith) (sym c.is_root.ensures ∙ w.if-is_root.false))
    ]
