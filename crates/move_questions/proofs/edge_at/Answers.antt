-- What the steps of the listing show is the ledger's answer. Assumes nothing.
use Rattle.std.proofs.Common.{arith}
use Rattle.move_questions.proofs.Listing.{listable_part, past, can_find-row, can_find-cell, cell-there, can_read, found}
use Rattle.move_questions.proofs.edge_at.Goals as goal

pub find_row-requires : goal.find_row-requires
find_row-requires c = can_find-row (listable_part c.requires.1)

pub returns-in_default : goal.returns-in_default
returns-in_default c = λ load l. past (listable_part l) (omega arith)

pub find_cell-requires : goal.find_cell-requires
find_cell-requires c = can_find-cell (listable_part c.requires.1) _ c.in-Ok.ensures.inside

pub returns-in_err-j : goal.returns-in_err-j
returns-in_err-j c = absurd (cell-there (listable_part c.requires.1) c.in-Ok.ensures c.in_err-j.ensures)

pub read_edge-requires : goal.read_edge-requires
read_edge-requires c = can_read (listable_part c.requires.1) c.in-Ok.ensures c.in_ok-j.ensures

pub returns : goal.returns
returns c = λ load l. found (listable_part l) c.in-Ok.ensures c.in_ok-j.ensures c.read_edge.ensures
