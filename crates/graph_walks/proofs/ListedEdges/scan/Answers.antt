-- Each turn looks at one more neighbour. Assumes nothing.
use mathlib.Core.Path.{◌≡◌, refl, ap, ◌∙◌}
use native.Mathlib.Omega.{arith}
use lib.ListN.{get_or, length}
use Rattle.graph_neighbours.specs.Lists.{deg, part_long}
use Rattle.graph_walks.proofs.Layer.{scan_none, turn_can, turn_more}
use Rattle.graph_walks.proofs.Ends.{offers_list}
use Rattle.graph_walks.proofs.ListedEdges.scan.Goals as goal

pub loop-y-init : goal.loop-y-init
loop-y-init c = scan_none (offers_list c.args.self.now.whole) c.requires.ready

pub look-sp-requires : goal.look-sp-requires
look-sp-requires c =
    let z : length c.of-y-items.result.now ≡ deg c.args.self.now.graph.now.starts.now c.args.t = ap length c.of-y-items.ensures ∙ part_long c.args.self.now.whole _ c.requires.node in
    turn_can (offers_list c.args.self.now.whole) c.loop-y.invariant c.requires.node (omega arith) refl (ap (λ p. get_or p c.loop-y.y-index 0) c.of-y-items.ensures)

pub loop-y-preserved : goal.loop-y-preserved
loop-y-preserved c =
    let z : length c.of-y-items.result.now ≡ deg c.args.self.now.graph.now.starts.now c.args.t = ap length c.of-y-items.ensures ∙ part_long c.args.self.now.whole _ c.requires.node in
    turn_more (offers_list c.args.self.now.whole) c.loop-y.invariant c.requires.node (omega arith) refl (ap (λ p. get_or p c.loop-y.y-index 0) c.of-y-items.ensures) c.look-sp.ensures

pub returns : goal.returns
returns c =
    let z : length c.of-y-items.result.now ≡ deg c.args.self.now.graph.now.starts.now c.args.t = ap length c.of-y-items.ensures ∙ part_long c.args.self.now.whole _ c.requires.node in
    let q : c.loop-y.y-index ≡ deg c.args.self.now.graph.now.starts.now c.args.t = omega arith in
    rw q at c.loop-y.invariant
