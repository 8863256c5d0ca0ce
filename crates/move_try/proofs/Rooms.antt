-- The lists of a trial are long enough. Assumes nothing.
use Rattle.std.proofs.Common.{ℕ, ◌+◌, ◌≤◌, ◌≡◌, List, length, replicate, arith}
use Rattle.std.proofs.lemmas.List.{length-replicate}
use Rattle.graph_slots.specs.Asked.{ListRoom}
use Rattle.move_ledger.specs.Graph.{Load}
use Rattle.move_try.specs.Settle.{SettleRoom}

-- a list of k noughts
abbrev pub blank : ℕ → List ℕ
blank k = replicate k 0

blank_long : (k : ℕ) → length (blank k) ≡ k
blank_long k = length-replicate k 0

module _ {load : Load} {n nodes heads slots : ℕ} (room : SettleRoom load n nodes heads slots) where
  pub counts_room : n ≤ length (blank nodes)
  counts_room = omega (arith, room.counts_long, blank_long)

  pub heads_room : n ≤ length (blank heads)
  heads_room = omega (arith, room.rows, blank_long)

  pub slots_room : load.D + load.E ≤ length (blank slots)
  slots_room = omega (arith, room.slots_long, blank_long)

  pub lists_room : (m : ℕ) → m ≤ load.D + load.E → ListRoom m n (blank heads) (blank slots)
  lists_room m h = record { rows = omega (arith, room.rows, blank_long); room = omega (arith, room.slots_long, blank_long); short = omega (arith, room.slots_short, blank_long) }
