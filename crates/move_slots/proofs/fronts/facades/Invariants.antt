-- `move_slots::fronts::facades` meets its contract. Assumes nothing.
use Rattle.std.proofs.Common.{◌≡◌, ℕ, ◌<◌, length, get_or}
use Rattle.move_ledger.specs.Nodes.{highest}
use Rattle.move_slots.specs.Facades.{fronting}
use Rattle.move_slots.proofs.fronts.facades.Given as goal

abbrev pub invariant-loop-x : goal.invariant-loop-x
invariant-loop-x l = (b : ℕ) → b < length l.out → get_or l.out b 0 ≡ highest (fronting l.area l.at l.stride l.counts b) l.x
