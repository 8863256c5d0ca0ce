-- `move_consistency::worked::edges_hold` meets its contract. Assumes nothing.
use Rattle.move_consistency.proofs.Matching.{match_check, match_done}
use Rattle.move_consistency.proofs.worked.edges_hold.Goals as goal

pub check-requires : goal.check-requires
check-requires c = match_check c.requires c.group.ensures

pub returns : goal.returns
returns c = match_done c.requires c.group.ensures c.check.ensures
