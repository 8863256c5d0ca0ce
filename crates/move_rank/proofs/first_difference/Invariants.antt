-- The atoms that were compared. Assumes nothing.
use Rattle.move_questions.specs.Answers.{set_of}
use Rattle.move_rank.specs.Atoms.{Alike}
use Rattle.move_rank.proofs.first_difference.Given as goal

abbrev pub invariant-loop-i : goal.invariant-loop-i
invariant-loop-i l = Alike (set_of l.first.area.numbers.now l.first.area.n) (set_of l.second.area.numbers.now l.second.area.n) l.i
