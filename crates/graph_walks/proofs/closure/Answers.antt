-- A walk over the rows of flags. Assumes nothing.
use Rattle.graph_walks.proofs.Ends.{offers_rows}
use Rattle.graph_walks.proofs.closure.Goals as goal

pub close_over-requires : goal.close_over-requires
close_over-requires c =
    record { offers = offers_rows _ _ _; ends = c.requires.ends; unmarked = c.requires.unmarked }
