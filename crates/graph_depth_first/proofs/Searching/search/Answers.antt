-- Each turn is a step. Assumes nothing.
use native.Mathlib.Omega.{arith}
use mathlib.Core.Path.{◌≡◌}
use lib.ListN.{get_or}
use borrow.Author.Rules.{rules}
use Rattle.graph_colours.specs.declared.State.TheVariants.{White}
use Rattle.graph_colours.specs.Colours.{none, more}
use Rattle.graph_depth_first.specs.Lent.{same_lists, same_then}
use Rattle.graph_depth_first.proofs.Views.{run_join}
use Rattle.graph_depth_first.proofs.Layer.{kept_refl, kept_trans, long_refl, long_trans, discover_can, root_step, root_known}
use Rattle.graph_depth_first.proofs.Searching.search.Goals as goal

pub returns-then-ne : goal.returns-then-ne
returns-then-ne c =
    let known : get_or c.args.self.now.states.now c.args.root White ≡ White → ⊥ = search rules in
    record {
      moves = record { kept = kept_refl _ _; known = known; ran = none; ready = c.requires.ready; empty = c.requires.empty };
      long = long_refl _;
      same = same_lists _;
    }

pub discover-progress-requires : goal.discover-progress-requires
discover-progress-requires c =
    let white : get_or c.args.self.now.states.now c.args.root White ≡ White = search rules in
    discover_can c.requires.ready c.args.root c.requires.node white

pub loop-progress-init : goal.loop-progress-init
loop-progress-init c =
    let white : get_or c.args.self.now.states.now c.args.root White ≡ White = search rules in
    record { ready = (root_step c.requires.ready c.args.root c.requires.node white c.requires.empty c.discover-progress.ensures.moves).ready; kept = kept_refl _ _; ran = none; long = long_refl _; same = same_lists _ }

pub step-progress-requires : goal.step-progress-requires
step-progress-requires c = record { ready = c.loop-progress.invariant.ready; some = c.loop-progress-test.true }

pub loop-progress-smaller : goal.loop-progress-smaller
loop-progress-smaller c = c.step-progress.ensures.moves.less

pub loop-progress-preserved : goal.loop-progress-preserved
loop-progress-preserved c =
    let v = c.loop-progress.invariant in
    let w = c.step-progress.ensures in
    record { ready = w.moves.ready; kept = kept_trans v.kept w.moves.kept; ran = more v.ran w.moves.moved; long = long_trans v.long w.moves.long; same = same_then v.same w.same }

pub returns : goal.returns
returns c =
    let v = c.loop-progress.invariant in
    let white : get_or c.args.self.now.states.now c.args.root White ≡ White = search rules in
    let first = root_step c.requires.ready c.args.root c.requires.node white c.requires.empty c.discover-progress.ensures.moves in
    let z : c.loop-progress.progress.height ≡ 0 = omega arith in
    record {
      moves = record {
        kept = kept_trans first.kept v.kept;
        known = v.kept.known c.args.root c.requires.node (root_known c.requires.ready c.args.root c.requires.node white c.requires.empty c.discover-progress.ensures.moves);
        ran = rw (c.requires.empty, z) at (run_join (more none first.moved) v.ran);
        ready = v.ready;
        empty = z;
      };
      long = long_trans first.long v.long;
      same = same_then c.discover-progress.ensures.same v.same;
    }
