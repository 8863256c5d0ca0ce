-- The marks after a scan of the root and the walk. Assumes nothing.
use mathlib.Core.Path.{◌∙◌}
use Rattle.graph_walks.proofs.Layer.{ready-first}
use Rattle.graph_walks.proofs.Ends.{offers_list, reach-done}
use Rattle.graph_walks.proofs.reach.Goals as goal

pub scan-height-requires : goal.scan-height-requires
scan-height-requires c = record { ready = ready-first c.requires.cells c.requires.room; node = c.requires.start }

pub spread_over-requires : goal.spread_over-requires
spread_over-requires c = record { offers = offers_list c.requires.graph; ready = c.scan-height.ensures.ready }

pub returns : goal.returns
returns c = reach-done c.requires c.scan-height.ensures c.spread_over.ensures (c.spread_over.auto.marks ∙ c.scan-height.auto.marks)
