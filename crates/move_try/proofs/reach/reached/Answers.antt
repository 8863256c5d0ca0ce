-- `move_try::reach::reached` meets its contract. Assumes nothing.
use Rattle.std.proofs.Common.{ap, ◌∙◌, List, ℕ, length, get_or}
use Rattle.std.specs.Prelude.{eqb}
use Rattle.graphs.specs.Count.{count, count_ext}
use Rattle.move_area.specs.Bodies.{lane_at}
use Rattle.move_try.specs.Areas.{counter_in, marks-lent}
use Rattle.move_try.proofs.Counting.{count-part}
use Rattle.move_try.proofs.reach.reached.Goals as goal

pub returns : goal.returns
returns c =
    let s = c.args in
    let mark = counter_in s.area.now.n s.area.now.numbers.now in
    c.count_marked.ensures ∙ ap (λ (l : List ℕ). count (λ x. eqb (get_or l x 0) mark) (length l)) (marks-lent s.area.now.n s.area.now.numbers.now c.requires.room)
    ∙ count-part (λ x. eqb x mark) s.area.now.numbers.now (lane_at s.area.now.n 9) s.area.now.n ∙ count_ext _ _ s.area.now.n (c.requires.marks c.if-area-square-eq0.false)
