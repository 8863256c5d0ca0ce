-- The word, and the verdict behind it. Assumes nothing.
use Rattle.moves_replies.specs.Wrote.{wrote_then}
use Rattle.moves_answers.proofs.put_load.Goals as goal

pub returns : goal.returns
returns c = wrote_then c.put.ensures c.put_verdict.ensures
