-- A walk over the neighbour lists. Assumes nothing.
use Rattle.graph_walks.proofs.Ends.{offers_list}
use Rattle.graph_walks.proofs.spread.Goals as goal

pub spread_over-requires : goal.spread_over-requires
spread_over-requires c = record { offers = offers_list c.requires.graph; ready = c.requires.ready }
