-- The dynamic entries passed so far are marked. Assumes nothing.
use Rattle.merge_choice.specs.Marks.{Marked, dynamic}
use Rattle.merge_choice.specs.Named.{reads}
use Rattle.merge_target.specs.Roles.{numbers}
use Rattle.merge_target.proofs.checked.Checked.mark_entries.Given as goal

abbrev pub invariant-loop-d : goal.invariant-loop-d
invariant-loop-d l = Marked (dynamic (numbers l.self.roles.now)) (reads l.self.bundle.now.entries.now) l.d 1 l.initial.marks l.marks
