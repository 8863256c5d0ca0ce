-- The modules passed so far are marked, where nobody imports them. Assumes nothing.
use Rattle.merge_choice.specs.Marks.{Marked, empty}
use Rattle.merge_choice.specs.Named.{reads}
use Rattle.merge_target.proofs.checked.Checked.mark_free.Given as goal

abbrev pub invariant-loop-m : goal.invariant-loop-m
invariant-loop-m l = Marked (empty l.self.candidate.now.modules.now l.self.bundle.now.dynamic_importers.starts.now) (reads l.self.candidate.now.modules.now) l.m-index 1 l.initial.marks l.marks
