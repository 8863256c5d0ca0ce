-- A node has the set, or none. Assumes nothing.
use Rattle.std.proofs.Common.{arith}
use Rattle.move_questions.proofs.Asking.{no_count, its_count}
use Rattle.move_questions.proofs.atom_count.Goals as goal

pub returns-in-Some : goal.returns-in-Some
returns-in-Some c = λ load h. its_count h c.in-Some.ensures.first c.in-Some.ensures.inside

pub returns-in-None : goal.returns-in-None
returns-in-None c = λ load h. no_count h c.in-None.ensures.first (omega arith)
