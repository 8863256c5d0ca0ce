-- `move_loading::graph::write_graph` meets its contract. Assumes nothing.
use Rattle.move_loading.proofs.Flagging.{fill_can, graph_written}
use Rattle.move_loading.proofs.graph.write_graph.Goals as goal

pub write_edges-requires : goal.write_edges-requires
write_edges-requires c = fill_can c.requires.0 c.requires.1 c.fill_own_slots.ensures c.slot_count-count.ensures c.copy.auto.area c.fill_own_slots.auto.sources c.fill_own_slots.auto.targets

pub returns : goal.returns
returns c = graph_written c.requires.0 c.requires.1 c.fill_own_slots.ensures c.slot_count-count.ensures c.copy.ensures c.write_edges.ensures
