-- The numbers passed so far are marked. Assumes nothing.
use Rattle.merge_choice.specs.Marks.{Marked, all}
use Rattle.merge_choice.specs.Named.{reads}
use Rattle.merge_target.proofs.marks.mark_list.Given as goal

abbrev pub invariant-loop-y : goal.invariant-loop-y
invariant-loop-y l = Marked all (reads l.list) l.y-index l.mark l.initial.marks l.marks
