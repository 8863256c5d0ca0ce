-- Each turn meets one more edge. Assumes nothing.
use Rattle.std.proofs.Common.{ℕ, List, ◌≡◌, ◌∙◌, ap, get_or, length, arith}
use Rattle.graph_neighbours.specs.Lists.{deg, part_long}
use Rattle.graph_neighbours.specs.Followed.{followed}
use Rattle.graph_depth_first.specs.Steps.{at}
use Rattle.graph_components.proofs.Meets.{met-turn, met_next}
use Rattle.graph_components.proofs.inner.Goals as goal

pub loop-y-preserved : goal.loop-y-preserved
loop-y-preserved c =
    let row : length c.of-y-items.result.now ≡ deg c.args.graph.now.starts.now c.args.x = ap length c.of-y-items.ensures ∙ part_long c.requires.0.graph _ c.requires.1 in
    let turn = met-turn c.args.graph.now.starts.now (followed c.args.graph.now) c.args.label.now c.loop-y.found c.requires.1 (omega arith) (ap (λ (l : List ℕ). get_or l c.loop-y.y-index 0) c.of-y-items.ensures) c.loop-y.invariant in
    rw c.meet-found.ensures turn

pub returns : goal.returns
returns c =
    let row : c.loop-y.y-index ≡ deg c.args.graph.now.starts.now c.args.x = omega (arith, ap length c.of-y-items.ensures, part_long c.requires.0.graph _ c.requires.1) in
    met_next c.args.graph.now.starts.now (followed c.args.graph.now) c.args.n (at c.args.label.now) c.args.x c.loop-y.found (rw row at c.loop-y.invariant)
