-- The marks after two scans and the walk. Assumes nothing.
use mathlib.Core.Path.{◌∙◌}
use Rattle.graph_walks.proofs.Layer.{ready-first}
use Rattle.graph_walks.proofs.Ends.{union-done}
use Rattle.graph_walks.proofs.close_over.Goals as goal

pub scan-first-requires : goal.scan-first-requires
scan-first-requires g c = record { ready = ready-first c.requires.unmarked.cells c.requires.unmarked.room; node = c.requires.ends.0 }

pub returns : goal.returns
returns g c = union-done c.requires.offers _ _ c.requires.unmarked c.scan-first.ensures c.scan-both.ensures c.spread_over.ensures (c.spread_over.auto.marks ∙ c.scan-both.auto.marks ∙ c.scan-first.auto.marks)
