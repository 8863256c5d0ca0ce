-- `move_loading::local::load_in` meets its contract. Assumes nothing.
use Rattle.move_loading.proofs.Reading.{start_can, graph_can, ranged}
use Rattle.move_loading.proofs.Loaded.{flags_can, loaded-says, loaded_is}
use Rattle.move_loading.proofs.local.load_in.Goals as goal

pub write_start-requires : goal.write_start-requires
write_start-requires g c = start_can c.requires

pub write_graph-count-requires : goal.write_graph-count-requires
write_graph-count-requires g c = let e = c.write_start.ensures in (graph_can c.requires e, ranged c.requires e)

pub write_flags-requires : goal.write_flags-requires
write_flags-requires g c = flags_can c.requires c.write_start.ensures c.write_graph-count.ensures c.write_graph-count.auto.counts c.write_graph-count.auto.sources c.write_graph-count.auto.targets

pub returns : goal.returns
returns g c =
    let e = c.write_start.ensures in
    record {
      value = loaded-says _ _ _ c.args.area.now c.requires.loadable _ e c.write_graph-count.ensures c.write_flags.ensures;
      area_after = loaded_is _ _ _ c.args.area.now c.requires.loadable _ e c.write_graph-count.ensures c.write_flags.ensures;
    }
