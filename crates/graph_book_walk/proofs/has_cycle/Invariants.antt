-- The nodes before x are black, and no node is gray. Assumes nothing.
use lib.ListN.{length}
use Rattle.graph_book_walk.proofs.Rounds.{Round}
use Rattle.graph_book_walk.proofs.has_cycle.Given as goal

abbrev pub invariant-loop-x : goal.invariant-loop-x
invariant-loop-x l = Round l.heads l.list (length l.fn.colour) l.x l.colour
