-- The last reply stands at the start of what is lent for it. Assumes nothing.
use native.Mathlib.Omega.{arith}
use Rattle.moves.specs.Turns.{put_starts}
use Rattle.moves.proofs.Turning.{finished-put}
use Rattle.moves.proofs.end.Goals as goal

pub returns : goal.returns
returns c = let p = finished-put _ (omega arith) c.finish-n.ensures in (omega (arith, p.end), put_starts p)
