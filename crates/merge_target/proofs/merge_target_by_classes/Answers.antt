-- The rows one after the other, then the choice. Assumes nothing.
use Rattle.std.proofs.Common.{sym, ◌∙◌}
use Rattle.merge_choice.specs.Classes.{by-lists, by_classes, by-choice}
use Rattle.merge_choice.specs.Rows.{legal}
use Rattle.merge_target.proofs.Told.{told_is}
use Rattle.merge_target.proofs.merge_target_by_classes.Goals as goal

pub returns-then-is_refused : goal.returns-then-is_refused
returns-then-is_refused c = by-lists _ _ _ _ _ _ (sym c.is_refused.ensures ∙ c.if-is_refused.true)

pub returns-in_default : goal.returns-in_default
returns-in_default c = by_classes _ _ _ _ _ _ (sym c.is_refused.ensures ∙ c.if-is_refused.false) c.in_default.ensures

pub returns : goal.returns
returns c =
    let h = sym c.is_refused.ensures ∙ c.if-is_refused.false in
    let e = c.in-Some.ensures in
    by-choice _ _ _ _ _ _ h e.0 (rw e.1 at c.choose.ensures.value) (told_is c.choose.result _ (legal _ _ _ _ h).few_chunks c.choose.ensures.below)
