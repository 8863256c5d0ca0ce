-- `move_try::reach::walk` meets its contract. Assumes nothing.
use Rattle.std.proofs.Common.{arith, ◌∙◌}
use Rattle.std.specs.Prelude.{eqb}
use Rattle.graph_neighbours.specs.Lists.{edge}
use Rattle.move_try.specs.Reached.{own_can, own_count}
use Rattle.move_try.proofs.Counting.{count-first}
use Rattle.move_try.proofs.reach.walk.Goals as goal

pub reach-requires : goal.reach-requires
reach-requires c = let p = c.requires in own_can p.0 p.1 p.2

pub returns : goal.returns
returns c =
    let s = c.args in
    c.count_marked.ensures ∙ count-first (λ x. eqb x 1) c.reach.new.marks s.n (omega (arith, c.reach.auto.marks)) ∙ own_count (edge s.heads.now s.list.now s.n) s.n s.to c.requires.1 c.reach.ensures
