-- One module more at each turn. Assumes nothing.
use Rattle.std.proofs.Common.{arith, ◌≡◌, ◌<◌, ◌∙◌, sym, ap, eqb, length}
use Rattle.merge_choice.specs.Named.{reads}
use Rattle.merge_choice.specs.Marks.{empty, marked-none, marked_more, is_first, is_second}
use Rattle.merge_target.specs.Lent.{lists_of}
use Rattle.merge_target.proofs.Parts.{part_long}
use Rattle.merge_target.proofs.checked.Checked.mark_free.Goals as goal
use Rattle.merge_target.proofs.checked.Checked.mark_free.Goals.{then-is_empty, else-is_empty}

pub loop-m-init : goal.loop-m-init
loop-m-init c = marked-none

pub loop-m-preserved : goal.loop-m-preserved
loop-m-preserved c =
    let b = c.args.self.now.bundle.now in
    let m = reads c.args.self.now.candidate.now.modules.now c.loop-m.m-index in
    let own : m < b.modules = c.args.self.now.own c.loop-m.m-index 0 c.loop-m-test.true in
    let e : c.is_empty.result ≡ empty c.args.self.now.candidate.now.modules.now b.dynamic_importers.starts.now c.loop-m.m-index =
    c.is_empty.ensures ∙ ap (λ n. eqb n 0) (ap length c.of.ensures ∙ part_long (lists_of b.dynamic_importers) m (c.args.self.now.sound.dynamic_importers.each m own))
    in
    let room : m < length c.loop-m.marks = omega arith in
    elim c.if-is_empty.branch [
      | then-is_empty w ↦ marked_more c.loop-m.invariant (λ h. room) (w.marks-is ∙ is_first _ _ _ (sym e ∙ w.if-is_empty.true))
      | else-is_empty w ↦ marked_more c.loop-m.invariant (λ h. room) (w.marks-is ∙ is_second _ _ _ (sym e ∙ w.if-is_empty.false))
    ]
