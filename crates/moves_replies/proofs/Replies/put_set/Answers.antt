-- The number, and the end of the line behind it. Assumes nothing.
use Rattle.moves_replies.specs.Wrote.{wrote_then}
use Rattle.moves_replies.proofs.Replies.put_set.Goals as goal

pub returns : goal.returns
returns c = wrote_then c.put_number.ensures.put c.put.ensures
