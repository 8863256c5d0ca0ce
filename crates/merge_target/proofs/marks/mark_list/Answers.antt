-- One number more at each turn. Assumes nothing.
use Rattle.std.proofs.Common.{arith, refl}
use Rattle.merge_choice.specs.Marks.{marked-none, marked_more}
use Rattle.merge_target.proofs.marks.mark_list.Goals as goal

pub loop-y-init : goal.loop-y-init
loop-y-init c = marked-none

pub loop-y-preserved : goal.loop-y-preserved
loop-y-preserved c = marked_more c.loop-y.invariant (λ _. omega (arith, c.requires c.loop-y.y-index 0, c.loop-y.invariant.long)) refl
