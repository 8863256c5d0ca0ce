-- What is still to come after the bytes up to i is all that is left, and the lists are those that were lent, each as long as it was. Assumes nothing.
use Rattle.moves_load_commands.specs.Lent.{SameLists, shown}
use Rattle.moves_commands.specs.Steps.{Long, lent_held}
use Rattle.moves_commands.proofs.Feeds.{Feeding}
use Rattle.moves_commands.proofs.feed_on.Given as goal

abbrev pub invariant-loop-i : goal.invariant-loop-i
invariant-loop-i l = record {
  fed : Feeding (lent_held l.initial.reading l.initial.starts l.initial.area) l.input l.initial.replies (lent_held l.reading l.starts l.area) l.i l.replies;
  long : Long (shown l.initial.reading) (shown l.reading);
  same : SameLists l.initial.reading l.reading;
}
