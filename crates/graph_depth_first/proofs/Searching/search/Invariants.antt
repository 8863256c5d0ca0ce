-- The state of the search, and the run so far, in the lists that are lent, each as long as it was. Assumes nothing.
use Rattle.graph_neighbours.specs.Followed.{followed}
use Rattle.graph_neighbours.specs.Lists.{deg, nb}
use Rattle.graph_colours.specs.Colours.{view, Run}
use Rattle.graph_depth_first.specs.Lent.{lists, SameLists}
use Rattle.graph_depth_first.specs.Lists.{Long}
use Rattle.graph_depth_first.specs.Steps.{Ready, Kept, left}
use Rattle.graph_depth_first.proofs.Searching.search.Given as goal

abbrev pub invariant-loop-progress : goal.invariant-loop-progress
invariant-loop-progress l = record {
  ready : Ready l.graph l.n (lists l.self) l.progress;
  kept : Kept l.n l.initial.self.states.now l.self.states.now;
  ran : Run l.n (deg l.graph.starts.now) (nb l.graph.starts.now (followed l.graph)) (view l.initial.self.states.now l.initial.self.cursors.now l.initial.self.stack.now l.initial.progress.height)
      (view l.self.states.now l.self.cursors.now l.self.stack.now l.progress.height);
  long : Long (lists l.initial.self) (lists l.self);
  same : SameLists l.initial.self l.self;
}

abbrev pub decreases-loop-progress : goal.decreases-loop-progress
decreases-loop-progress l = left l.graph l.n (lists l.self) l.progress
