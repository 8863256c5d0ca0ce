-- Short forms that the cases of the move graph are written in. Assumes nothing.
use Rattle.std.specs.Prelude.{ℕ, List, replicate}
use Rattle.move_ledger.specs.Graph.{none}
use Rattle.move_ledger.specs.Answer.{Answer, accepted, edge}
use Rattle.move_ledger.specs.Ledger.{Ledger}

-- n bits without a host
abbrev pub nobody : ℕ → List ℕ
nobody n = replicate n none

-- no atom is fixed
abbrev pub free : ℕ → List ℕ
free n = replicate n 0

abbrev pub kept : List ℕ → List ℕ → Ledger
kept place registered = record { place = place; registered = registered }

-- an accepted move, with how many edges appeared and vanished, and how many other chunks the atom's chunk reaches
abbrev pub moves : ℕ → ℕ → ℕ → Answer
moves come gone reach = accepted (record { appeared = come; vanished = gone; reached = reach })

-- an edge answered
abbrev pub found : ℕ → ℕ → ℕ → Answer
found from to times = edge (record { from = from; to = to; multiplicity = times })
