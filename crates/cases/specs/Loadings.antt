-- The bench cases of the move graph's loading, row by row. Assumes nothing.
use Rattle.std.specs.Prelude.{ℕ, List, [], ◌∷◌}
use Rattle.move_ledger.specs.Graph.{Load, none}
use Rattle.move_ledger.specs.Answer.{Answer, refused, acyclic}
use Rattle.cases.specs.Run.{MoveCase}
use Rattle.cases.specs.MoveParts.{free, kept}

-- each row of loading. Two atoms, one dependency, two bits, sets 1 and 2 pass; each other case changes one thing, and what comes
-- later in the table may be wrong too
abbrev lent : List ℕ → List ℕ → List ℕ → Load
lent starts dependencies hosts = record { A = 2; D = 1; E = 2; starts = starts; dependencies = dependencies; hosts = hosts }

abbrev pub marked : Load → List ℕ → ℕ → List ℕ → ℕ → Answer → MoveCase
marked load fixed N sets size answer =
    record { load = load; fixed = fixed; N = N; sets = sets; size = size; calls = []; expected = record { start = answer; replies = []; end = kept sets sets } }

abbrev pub loads : Load → ℕ → List ℕ → ℕ → Answer → MoveCase
loads load N sets size answer = marked load (free 2) N sets size answer

abbrev pub loadings : List MoveCase
loadings =
    loads (lent (0 ∷ 1 ∷ 1 ∷ []) (1 ∷ []) (none ∷ 1 ∷ [])) 3 (1 ∷ 2 ∷ []) 225 acyclic
    ∷ loads (lent (0 ∷ 1 ∷ 1 ∷ []) (1 ∷ []) (none ∷ 1 ∷ [])) 2 (1 ∷ 2 ∷ []) 225 (refused 1)
    ∷ loads (lent (0 ∷ 1 ∷ 1 ∷ []) (1 ∷ 0 ∷ []) (none ∷ 1 ∷ [])) 3 (1 ∷ 2 ∷ []) 0 (refused 2)
    ∷ marked (lent (0 ∷ 1 ∷ 1 ∷ []) (1 ∷ []) (none ∷ 1 ∷ [])) (free 1) 3 (1 ∷ 2 ∷ []) 0 (refused 2)
    ∷ marked (lent (0 ∷ 1 ∷ 1 ∷ []) (1 ∷ []) (none ∷ 1 ∷ [])) (free 3) 3 (1 ∷ 2 ∷ []) 0 (refused 2)
    ∷ marked (lent (0 ∷ 1 ∷ 1 ∷ []) (1 ∷ []) (none ∷ 1 ∷ [])) (free 1) 2 (1 ∷ 2 ∷ []) 0 (refused 1)
    ∷ loads (lent (0 ∷ 1 ∷ 2 ∷ []) (1 ∷ []) (none ∷ 1 ∷ [])) 3 (1 ∷ 2 ∷ []) 224 (refused 3)
    ∷ loads (lent (0 ∷ 1 ∷ 2 ∷ []) (2 ∷ []) (none ∷ 1 ∷ [])) 3 (1 ∷ 2 ∷ []) 225 (refused 4)
    ∷ loads (lent (0 ∷ 1 ∷ 1 ∷ []) (0 ∷ []) (none ∷ 2 ∷ [])) 3 (1 ∷ 2 ∷ []) 225 (refused 5)
    ∷ loads (lent (0 ∷ 1 ∷ 1 ∷ []) (1 ∷ []) (none ∷ 2 ∷ [])) 3 (4 ∷ 2 ∷ []) 225 (refused 6)
    ∷ loads (lent (0 ∷ 1 ∷ 1 ∷ []) (1 ∷ []) (none ∷ 1 ∷ [])) 3 (4 ∷ 4 ∷ []) 225 (refused 7)
    ∷ loads (lent (0 ∷ 1 ∷ 1 ∷ []) (1 ∷ []) (none ∷ 1 ∷ [])) 3 (3 ∷ 3 ∷ []) 225 (refused 8)
    ∷ []
