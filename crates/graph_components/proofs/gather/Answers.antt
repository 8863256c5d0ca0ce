-- `graph_components::gather` meets its contract. Assumes nothing.
use Rattle.graph_components.proofs.Gathering.{gather_can, spread_can, gather_done}
use Rattle.graph_components.proofs.gather.Goals as goal

pub look-height-requires : goal.look-height-requires
look-height-requires c =
    gather_can c.requires

pub spread-requires : goal.spread-requires
spread-requires c =
    spread_can c.requires c.look-height.ensures

pub returns : goal.returns
returns c =
    gather_done c.requires c.look-height.ensures c.spread.ensures
