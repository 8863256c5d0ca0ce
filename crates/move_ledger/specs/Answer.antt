-- What a call of the move graph answers. Assumes nothing.
use Rattle.std.specs.Prelude.{ℕ, Bool, true, false, List}
use Rattle.move_ledger.specs.Graph.{Edge}

-- what an accepted move reports: how many distinct edges appeared and vanished between the two graphs, and how many other chunks the moved atom's chunk
-- reaches in the new one
pub record Report : Type 0 where
  pub appeared : ℕ
  pub vanished : ℕ
  pub reached : ℕ

abbrev pub zeros : Report
zeros = record { appeared = 0; vanished = 0; reached = 0 }

-- `refused n` names row n of the table; a set is its four numbers of 64 bits
pub data Answer : Type 0 where
  refused : ℕ → Answer
  acyclic : Answer
  cyclic : Answer
  accepted : Report → Answer
  rejected : Answer
  set : List ℕ → Answer
  number : ℕ → Answer
  edge : Edge → Answer
  none : Answer

abbrev pub is_refused : Answer → Bool
is_refused (refused n) = true
is_refused acyclic = false
is_refused cyclic = false
is_refused (accepted r) = false
is_refused rejected = false
is_refused (set s) = false
is_refused (number n) = false
is_refused (edge e) = false
is_refused none = false

abbrev pub is_accepted : Answer → Bool
is_accepted (refused n) = false
is_accepted acyclic = false
is_accepted cyclic = false
is_accepted (accepted r) = true
is_accepted rejected = false
is_accepted (set s) = false
is_accepted (number n) = false
is_accepted (edge e) = false
is_accepted none = false

-- the numbers that an answer reports: zeros, but for an accepted move
abbrev pub reported : Answer → Report
reported (refused n) = zeros
reported acyclic = zeros
reported cyclic = zeros
reported (accepted r) = r
reported rejected = zeros
reported (set s) = zeros
reported (number n) = zeros
reported (edge e) = zeros
reported none = zeros

-- an answer without these numbers, which are left out where two orders of moves are compared
abbrev pub plain : Answer → Answer
plain (refused n) = refused n
plain acyclic = acyclic
plain cyclic = cyclic
plain (accepted r) = accepted zeros
plain rejected = rejected
plain (set s) = set s
plain (number n) = number n
plain (edge e) = edge e
plain none = none
