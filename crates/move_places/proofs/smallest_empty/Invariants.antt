-- `move_places::smallest_empty` meets its contract. Assumes nothing.
use Rattle.std.proofs.Common.{◌<◌, IfSome}
use Rattle.std.specs.Option.{unwrap_or}
use Rattle.set_order.specs.Order.{set_in}
use Rattle.move_places.specs.Least.{empty, Least}
use Rattle.move_places.proofs.smallest_empty.Given as goal

abbrev pub invariant-loop-x : goal.invariant-loop-x
invariant-loop-x l = record { least : Least (set_in l.lanes) (empty l.lanes.area.now l.counts) l.lanes.n l.x (unwrap_or l.best l.lanes.n); inside : IfSome l.best (λ b. b < l.lanes.n) }
