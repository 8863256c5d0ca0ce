-- One chunk more at each turn. Assumes nothing.
use Rattle.std.proofs.Common.{arith, ◌≡◌, ◌<◌, ◌∙◌, sym, true, get_or, length, eqb-true}
use Rattle.merge_choice.specs.Named.{reads}
use Rattle.merge_choice.specs.Marks.{dynamic, marked-none, marked_more, is_first, is_second}
use Rattle.merge_target.specs.Roles.{numbers}
use Rattle.merge_target.proofs.checked.Checked.mark_entries.Goals as goal
use Rattle.merge_target.proofs.checked.Checked.mark_entries.Goals.{then-is_dynamic, else-is_dynamic}

pub loop-d-init : goal.loop-d-init
loop-d-init c = marked-none

pub loop-d-preserved : goal.loop-d-preserved
loop-d-preserved c =
    let l = numbers c.args.self.now.roles.now in
    let room : dynamic l c.loop-d.d ≡ true → reads c.args.self.now.bundle.now.entries.now c.loop-d.d < length c.loop-d.marks =
    λ h.
    let v = eqb-true (get_or l c.loop-d.d 0) 1 h in
    omega (arith, c.args.self.now.roled.entry c.loop-d.d c.loop-d-test.true (λ z. omega (arith, v, z)) (λ z. omega (arith, v, z)))
    in
    elim c.if-is_dynamic.branch [
      | then-is_dynamic w ↦ marked_more c.loop-d.invariant room (w.marks-is ∙ is_first _ _ _ (sym c.is_dynamic.ensures ∙ w.if-is_dynamic.true))
      | else-is_dynamic w ↦ marked_more c.loop-d.invariant room (w.marks-is ∙ is_second _ _ _ (sym c.is_dynamic.ensures ∙ w.if-is_dynamic.false))
    ]
