-- The area keeps the number of chunks. Assumes nothing.
use Rattle.std.proofs.Common.{◌∙◌}
use Rattle.move_questions.proofs.Asking.{chunk_total}
use Rattle.move_questions.proofs.chunk_count.Goals as goal

pub returns : goal.returns
returns c = λ load registered l. c.from.ensures ∙ c.header.ensures ∙ chunk_total l
