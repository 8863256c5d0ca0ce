-- `move_load_rows::bad_dependencies` meets its contract. Assumes nothing.
use Rattle.std.proofs.Common.{◌≡◌, false}
use Rattle.graphs.specs.Lists.{some_below}
use Rattle.move_ledger.specs.Graph.{at}
use Rattle.move_load_view.specs.View.{lent_by}
use Rattle.move_load_rows.proofs.Spans.{wrong}
use Rattle.move_load_rows.proofs.bad_dependencies.Given as goal

abbrev pub invariant-loop-atom : goal.invariant-loop-atom
invariant-loop-atom l = some_below (wrong (lent_by l.load)) (at l.load.starts.now l.atom) ≡ false
