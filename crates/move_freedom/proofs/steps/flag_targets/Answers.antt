-- One more slot, which passes or doesn't. Assumes nothing.
use Rattle.std.proofs.Common.{sym, ◌∙◌}
use Rattle.move_freedom.proofs.Flagging.{flagged-none, flagged-hit, flagged-miss}
use Rattle.move_freedom.proofs.steps.flag_targets.Goals as goal
use Rattle.move_freedom.proofs.steps.flag_targets.Goals.{then-passes, else-passes}

pub loop-k-init : goal.loop-k-init
loop-k-init g c = λ test tells. flagged-none _ _ _ _

pub loop-k-preserved : goal.loop-k-preserved
loop-k-preserved g c = λ test tells.
    let told = sym (tells _ _ _ c.passes.ensures) in
    elim c.if-passes.branch [
      | then-passes w ↦ rw w.flags-is (flagged-hit (c.loop-k.invariant test tells) (c.requires.can_flag.target c.loop-k.k c.loop-k-test.true) (told ∙ w.if-passes.true))
      | else-passes w ↦ rw w.flags-is (flagged-miss (c.loop-k.invariant test tells) (told ∙ w.if-passes.false))
    ]
