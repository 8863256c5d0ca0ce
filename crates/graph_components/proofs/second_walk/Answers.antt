-- Each turn labels the component of one more place. Assumes nothing.
use Prim.Native.Nat.{◌+◌, ◌-◌}
use native.Mathlib.Omega.{arith}
use mathlib.Core.Path.{◌≡◌}
use borrow.Author.Rules.{rules}
use Rattle.graph_depth_first.proofs.Rounds.{cleared}
use Rattle.graph_components.proofs.Labels.{parting_first, part_node, split_of}
use Rattle.graph_components.proofs.second_walk.Goals as goal

pub loop-k-init : goal.loop-k-init
loop-k-init c = parting_first c.requires (search rules) (cleared c.args.n 0 c.args.label.now (search rules))

pub part-requires : goal.part-requires
part-requires c =
    let k = c.loop-k.k in
    let z : k - 1 + 1 ≡ k = omega arith in
    (rw z c.loop-k.invariant, omega (arith, c.loop-k.invariant.state.most), part_node k (k - 1) c.loop-k.invariant (omega arith))

pub loop-k-preserved : goal.loop-k-preserved
loop-k-preserved c = c.part.ensures

pub returns : goal.returns
returns c = let z : c.loop-k.k ≡ 0 = omega arith in split_of (rw z at c.loop-k.invariant)
