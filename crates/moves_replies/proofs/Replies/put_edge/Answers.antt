-- The three numbers, with what stands between them. Assumes nothing.
use mathlib.Core.List.{append_assoc}
use Rattle.moves_replies.specs.Wrote.{wrote_as, wrote_then}
use Rattle.moves_replies.proofs.Replies.put_edge.Goals as goal

pub returns : goal.returns
returns c =
    let a₂ = wrote_then c.put_number.ensures.put c.put.ensures in
    let a₃ = wrote_then a₂ c.put_number-2.ensures.put in
    let a₄ = wrote_then a₃ c.put-2.ensures in
    let a₅ = wrote_then a₄ c.put_number-3.ensures.put in
    wrote_as (simp append_assoc) (wrote_then a₅ c.put-3.ensures)
