-- Which of two plans is better: a pair for each of the three comparisons, each decided against those after it. Assumes nothing.
use Rattle.std.specs.Prelude.{◌≡◌, refl, List, [], ◌∷◌}
use Rattle.graphs.specs.Count.{count}
use Rattle.move_ledger.specs.Graph.{Load, none, owner, lies, members, entry, facade, mult, edge, insert, rising, row, rows, edges}
use Rattle.move_rank.specs.Rank.{Rank, before, equal, after, by, one_by_one, rank}

-- atom 0 depends on atom 1; atom 2 hosts bit 0
abbrev load : Load
load = record { A = 3; D = 1; E = 3; starts = 0 ∷ 1 ∷ 1 ∷ 1 ∷ []; dependencies = 1 ∷ []; hosts = 2 ∷ none ∷ none ∷ [] }

-- of the first of each pair
unfoldable pub rankings : List Rank
rankings =
    rank load (3 ∷ 5 ∷ 6 ∷ []) (3 ∷ 5 ∷ 6 ∷ [])
    -- fewer chunks, with as many edges and a larger set of atom 0; exchanged
    ∷ rank load (6 ∷ 5 ∷ 5 ∷ []) (3 ∷ 5 ∷ 6 ∷ [])
    ∷ rank load (3 ∷ 5 ∷ 6 ∷ []) (6 ∷ 5 ∷ 5 ∷ [])
    -- as many chunks and fewer edges, with a larger set of atom 0
    ∷ rank load (6 ∷ 6 ∷ 5 ∷ []) (3 ∷ 5 ∷ 5 ∷ [])
    -- a facade edge counts: from {0}, atom 1's set, to the set of atom 2
    ∷ rank load (3 ∷ 1 ∷ 6 ∷ []) (3 ∷ 2 ∷ 6 ∷ [])
    -- atom 0 decides, then atom 1, whatever the others have
    ∷ rank load (3 ∷ 6 ∷ 7 ∷ []) (5 ∷ 2 ∷ 4 ∷ [])
    ∷ rank load (3 ∷ 6 ∷ 4 ∷ []) (3 ∷ 5 ∷ 7 ∷ [])
    -- no atoms
    ∷ rank (record { A = 0; D = 0; E = 0; starts = 0 ∷ []; dependencies = []; hosts = [] }) [] []
    ∷ []

pub rankings_right : rankings ≡ equal ∷ before ∷ after ∷ before ∷ after ∷ before ∷ after ∷ equal ∷ []
unfolding rankings rank by one_by_one count owner lies members entry facade mult edge insert rising row rows edges
rankings_right = refl
