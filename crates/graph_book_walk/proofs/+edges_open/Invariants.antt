-- The cycle of calls {edges, open}: each call makes a number less, over the white nodes and the edges that remain. Assumes nothing.
use Rattle.std.proofs.Common.{length}
use Rattle.graphs.specs.Total.{whites}
use Rattle.graph_neighbours.specs.Followed.{followed}
use Rattle.graph_neighbours.specs.Lists.{deg}
use Rattle.graph_book_walk.specs.Book.{at}
use Rattle.graph_book_walk.proofs.Falling.{falling}
use Rattle.graph_book_walk.proofs.Colours.{Going}
use Rattle.graph_book_walk.proofs.+edges_open.Given as goal

abbrev pub decreases-edges : goal.decreases-edges
decreases-edges l = falling (whites (length l.colour.now) (at l.colour.now)) (length (followed l.graph.now)) (deg l.graph.now.starts.now l.x)

abbrev pub decreases-open : goal.decreases-open
decreases-open l = falling (whites (length l.colour.now) (at l.colour.now)) (length (followed l.graph.now)) 0

abbrev pub invariant-edges-loop-y : goal.invariant-edges-loop-y
invariant-edges-loop-y l = Going l.graph.starts.now (followed l.graph) (length l.fn.colour) l.fn.colour l.x l.y-index l.colour
