-- The word, and the count's line behind it. Assumes nothing.
use Rattle.moves_replies.specs.Words.{reply}
use Rattle.moves_replies.specs.Wrote.{wrote_then}
use Rattle.moves_replies.proofs.Replies.put_edges.Goals as goal

pub returns : goal.returns
unfolding reply
returns c = wrote_then c.put.ensures c.put_set.ensures
