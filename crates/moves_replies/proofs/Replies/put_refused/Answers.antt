-- The word, and the row's line behind it. Assumes nothing.
use Rattle.std.proofs.Common.{refl}
use Rattle.moves_replies.specs.Words.{reply}
use Rattle.moves_replies.specs.Wrote.{wrote_then, wrote_as}
use Rattle.moves_replies.proofs.Replies.put_refused.Goals as goal

pub returns : goal.returns
unfolding reply
returns c = wrote_as (rw (c.from.ensures, c.row.ensures) refl) (wrote_then c.put.ensures c.put_set.ensures)
