-- `graph_components::only_cyclic_component` meets its contract. Assumes nothing.
use Rattle.graph_components.proofs.OnlyOne.{back_can, meet_can, only-done}
use Rattle.graph_components.proofs.only_cyclic_component.Goals as goal

pub second_walk-requires : goal.second_walk-requires
second_walk-requires c = back_can c.requires

pub within-found-requires : goal.within-found-requires
within-found-requires c = meet_can c.requires c.second_walk.ensures c.second_walk.auto.label

pub returns : goal.returns
returns c = only-done (meet_can c.requires c.second_walk.ensures c.second_walk.auto.label) c.within-found.result c.within-found.ensures c.flag_all.ensures
