-- A row turns the listing back, or all lines are written. Assumes nothing.
use Rattle.moves_commands.proofs.Lines.{listing-back}
use Rattle.moves_commands.proofs.edge_lines.list_edges.Goals as goal

pub returns-in-Err : goal.returns-in-Err
returns-in-Err c = listing-back c.in-Err.refusal c.in-Err.ensures c.put_refused.ensures

pub returns : goal.returns
returns c = c.put_all.ensures _ (record { told = c.in_default.ensures; few = c.requires.can_list.few })
