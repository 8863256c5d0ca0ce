-- Two nodes have the sets, or one set has none. Assumes nothing.
use Rattle.std.proofs.Common.{arith, ◌∙◌}
use Rattle.move_questions.proofs.Asking.{no_source, no_target, its_mult}
use Rattle.move_questions.proofs.multiplicity.Goals as goal

pub returns-in_default : goal.returns-in_default
returns-in_default c = λ load h. no_source h c.in_default.ensures.first _ (omega arith)

pub returns-in_default-find : goal.returns-in_default-find
returns-in_default-find c = λ load h. no_target h c.in-Some.ensures.first c.in_default-find.ensures.first (omega arith)

pub returns : goal.returns
returns c = λ load h. c.multiplicity.ensures ∙ its_mult h c.in-Some.ensures.first c.in-Some-find.ensures.first c.in-Some.ensures.inside c.in-Some-find.ensures.inside
