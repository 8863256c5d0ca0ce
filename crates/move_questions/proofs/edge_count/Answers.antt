-- The area keeps the number of edges. Assumes nothing.
use Rattle.std.proofs.Common.{◌∙◌}
use Rattle.move_questions.proofs.Asking.{edge-total}
use Rattle.move_questions.proofs.edge_count.Goals as goal

pub returns : goal.returns
returns c = λ load registered l. c.from.ensures ∙ c.header.ensures ∙ edge-total l
