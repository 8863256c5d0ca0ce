-- The text is the part of the list from the place on. Assumes nothing.
use Rattle.std.proofs.Common.{refl}
use Rattle.moves_replies.proofs.Writing.{put_text}
use Rattle.moves_replies.proofs.Replies.put.Goals as goal

pub returns : goal.returns
returns c = record { put = put_text _ _ _ _ c.requires c.copy_from_slice.ensures.after; same = refl }
