-- A start order computed. Chunk 1 depends on chunk 3 and, by the facade edge of bit 0, on chunk 4; chunk 2 isn't wanted. Assumes nothing.
use Rattle.std.specs.Prelude.{ℕ, ◌≡◌, refl, List, [], ◌∷◌}
use Rattle.graphs.specs.Count.{count}
use Rattle.graphs.specs.Lists.{any, all, has}
use Rattle.graphs.specs.Walk.{via, cyclic}
use Rattle.move_ledger.specs.Graph.{Load, none, owner, lies, members, entry, facade, mult, edge, insert, rising}
use Rattle.move_ledger.specs.Answer.{refused, number}
use Rattle.move_ledger.specs.Ledger.{index}
use Rattle.move_order.specs.Order.{wanted, ready, first, listing, start_order, names, told}

-- atom 1 depends on atom 0, and atom 3 hosts bit 0
abbrev load : Load
load = record { A = 5; D = 1; E = 3; starts = 0 ∷ 0 ∷ 1 ∷ 1 ∷ 1 ∷ 1 ∷ []; dependencies = 0 ∷ []; hosts = 3 ∷ none ∷ none ∷ [] }

-- atoms 0 and 4 are in one chunk
abbrev place : List ℕ
place = 3 ∷ 1 ∷ 2 ∷ 4 ∷ 3 ∷ []

-- the smallest set that is ready, each time, and each behind all that its edges lead to
pub ordered : start_order load place 0 ≡ 3 ∷ 4 ∷ 1 ∷ []
unfolding count any all has via owner lies members entry facade mult edge insert rising wanted ready first listing start_order
ordered = refl

-- by the lowest atom of each
pub named : names load place 0 ≡ 0 ∷ 3 ∷ 1 ∷ []
unfolding count any all has via owner lies members entry facade mult edge insert rising index wanted ready first listing start_order names
named = refl

-- 26 comes before 27
pub no_bit_first : told load place 3 [] ≡ refused 26
unfolding told
no_bit_first = refl

pub short-then : told load place 2 [] ≡ refused 27
unfolding count any has via cyclic owner lies members entry facade mult edge told
short-then = refl

pub counted : told load place 0 (9 ∷ 9 ∷ 9 ∷ 9 ∷ 9 ∷ []) ≡ number 3
unfolding count any all has via cyclic owner lies members entry facade mult edge insert rising index wanted ready first listing start_order names told
counted = refl
