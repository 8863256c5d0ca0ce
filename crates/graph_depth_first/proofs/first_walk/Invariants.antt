-- The nodes before the root are known, by a run of the walk, in the lists that are lent, each as long as it was. Assumes nothing.
use Rattle.graph_neighbours.specs.Followed.{followed}
use Rattle.graph_neighbours.specs.Lists.{deg, nb}
use Rattle.graph_colours.specs.Colours.{view, Starts, Run}
use Rattle.graph_depth_first.specs.Lent.{lists, SameLists}
use Rattle.graph_depth_first.specs.Lists.{Long}
use Rattle.graph_depth_first.proofs.Rounds.{Round}
use Rattle.graph_depth_first.proofs.first_walk.Given as goal

abbrev pub invariant-loop-root : goal.invariant-loop-root
invariant-loop-root l = record {
  starts : Starts l.n (view l.initial.searching.states.now l.initial.searching.cursors.now l.initial.searching.stack.now 0);
  round : Round l.graph l.n l.root (lists l.searching) l.progress;
  ran : Run l.n (deg l.graph.starts.now) (nb l.graph.starts.now (followed l.graph)) (view l.initial.searching.states.now l.initial.searching.cursors.now l.initial.searching.stack.now 0)
      (view l.searching.states.now l.searching.cursors.now l.searching.stack.now 0);
  long : Long (lists l.initial.searching) (lists l.searching);
  same : SameLists l.initial.searching l.searching;
}
