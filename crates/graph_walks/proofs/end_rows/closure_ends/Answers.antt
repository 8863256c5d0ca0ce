-- A walk over the rows of flags whose nodes stand for their ends. Assumes nothing.
use Rattle.graph_walks.proofs.EndLaws.{offers_ends}
use Rattle.graph_walks.proofs.end_rows.closure_ends.Goals as goal

pub close_over-requires : goal.close_over-requires
close_over-requires c =
    record { offers = offers_ends _ _ c.args.rows.now.lent; ends = (c.args.rows.now.first, c.args.rows.now.second); unmarked = c.requires }
