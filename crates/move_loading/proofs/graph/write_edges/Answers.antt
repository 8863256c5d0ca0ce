-- `move_loading::graph::write_edges` meets its contract. Assumes nothing.
use Rattle.std.proofs.Common.{arith}
use Rattle.move_loading.proofs.Flagging.{edges_written}
use Rattle.move_loading.proofs.graph.write_edges.Goals as goal

pub returns : goal.returns
returns c = edges_written _ _ _ _ _ (omega (arith, c.requires.1)) c.fill.ensures.value c.fill.ensures.edges_after
