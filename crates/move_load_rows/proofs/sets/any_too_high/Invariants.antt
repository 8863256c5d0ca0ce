-- `move_load_rows::sets::any_too_high` meets its contract. Assumes nothing.
use Rattle.std.proofs.Common.{◌≡◌, false}
use Rattle.graphs.specs.Lists.{some_below}
use Rattle.move_load_view.specs.View.{lent_by}
use Rattle.move_load_rows.proofs.SetLaws.{reaches}
use Rattle.move_load_rows.proofs.sets.any_too_high.Given as goal

abbrev pub invariant-loop-i : goal.invariant-loop-i
invariant-loop-i l = some_below (reaches (lent_by l.load) l.sets) l.i ≡ false
