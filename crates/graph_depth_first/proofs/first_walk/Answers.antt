-- Each turn makes one more node known, by a run of the walk. Assumes nothing.
use mathlib.Core.Path.{refl}
use borrow.Author.Rules.{rules}
use Rattle.graph_colours.specs.declared.State.TheVariants.{White}
use Rattle.graph_colours.specs.Colours.{none}
use Rattle.graph_depth_first.specs.Lent.{same_lists, same_then}
use Rattle.graph_depth_first.proofs.Views.{held_none, run_join}
use Rattle.graph_depth_first.proofs.Layer.{long_refl, long_trans}
use Rattle.graph_depth_first.proofs.Rounds.{cleared, cleared_can, round_first, round_more, round_done, round_ran}
use Rattle.graph_depth_first.proofs.first_walk.Goals as goal

pub loop-root-init : goal.loop-root-init
loop-root-init c = record {
  starts = record {
    white = cleared c.args.n White c.args.states.now (search rules);
    none = cleared c.args.n 0 c.args.cursors.now (search rules);
    empty = held_none _;
  };
  round = round_first (cleared_can c.requires (search rules) (search rules)) (cleared c.args.n White c.args.states.now (search rules)) (cleared c.args.n 0 c.args.cursors.now (search rules)) refl;
  ran = none;
  long = long_refl _;
  same = same_lists _;
}

pub search-progress-requires : goal.search-progress-requires
search-progress-requires c = record { ready = c.loop-root.invariant.round.ready; empty = c.loop-root.invariant.round.empty; node = c.loop-root-test.true }

pub loop-root-preserved : goal.loop-root-preserved
loop-root-preserved c =
    let v = c.loop-root.invariant in
    let w = c.search-progress.ensures in
    record { starts = v.starts; round = round_more v.round c.loop-root-test.true w.moves; ran = run_join v.ran w.moves.ran; long = long_trans v.long w.long; same = same_then v.same w.same }

pub returns-clause-walked : goal.returns-clause-walked
returns-clause-walked c =
    let v = c.loop-root.invariant in
    let order = v.same.order in
    let done = round_done v.round c.loop-root-test.false in
    search rules

pub returns-clause-ran : goal.returns-clause-ran
returns-clause-ran c =
    let v = c.loop-root.invariant in
    let states = v.same.states in
    let cursors = v.same.cursors in
    let stack = v.same.stack in
    let ran = round_ran v.round c.loop-root-test.false v.starts v.ran in
    search rules
