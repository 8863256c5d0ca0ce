-- The line of an edge, or nothing. Assumes nothing.
use Rattle.std.proofs.Common.{refl, rules, arith}
use Rattle.moves_replies.specs.Room.{put-none}
use Rattle.moves_replies.specs.Words.{reply}
use Rattle.moves_replies.specs.Wrote.{wrote_as}
use Rattle.moves_answers.proofs.Sets.{edge-line}
use Rattle.moves_answers.proofs.put_listed.Goals as goal

pub returns-in_default : goal.returns-in_default
unfolding reply
returns-in_default c = rw c.in_default.is (record { put = put-none _ _ (omega arith); same = refl })

pub returns-in-Some : goal.returns-in-Some
unfolding reply
returns-in-Some c =
    let e = c.in-Some.edge in
    rw c.in-Some.is (wrote_as (rw c.from.ensures (edge-line e.from e.to e.multiplicity (search rules) (search rules))) c.put_edge.ensures)
