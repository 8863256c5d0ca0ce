-- `move_slots::slots::entry_sources` meets its contract. Assumes nothing.
use Rattle.std.proofs.Common.{◌≡◌}
use Rattle.move_ledger.specs.Graph.{at}
use Rattle.move_load_view.specs.View.{lent_by}
use Rattle.move_slots.specs.Written.{Written}
use Rattle.move_slots.specs.Slots.{entry_source}
use Rattle.move_slots.proofs.slots.entry_sources.Given as goal

abbrev pub invariant-loop-atom : goal.invariant-loop-atom
invariant-loop-atom l = (l.from ≡ at l.load.starts.now l.atom) × Written (entry_source (lent_by l.load) l.nodes) 0 l.from l.initial.sources l.sources
