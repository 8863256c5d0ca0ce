-- A set's first number. Assumes nothing.
use mathlib.Core.Path.{◌≡◌, refl}
use mathlib.Core.List.{◌∷◌, ◌++◌}
use Prim.Native.Nat.{ℕ, ◌^◌, ◌<◌}
use Rattle.entry_set.specs.Joined.{joined, parts}
use Rattle.entry_set.specs.JoinedLaws.{low_part}
use Rattle.entry_set.specs.Sets.{number, words}
use Rattle.entry_set.specs.declared.EntrySet.{EntrySet}
use Rattle.move_ledger.specs.Graph.{at}
use Rattle.moves_replies.specs.Decimal.{decimal}
use Rattle.moves_replies.specs.Words.{line, space, printed_set}

pub first-number : (s : EntrySet) → s.0 < 2 ^ 64 → at (words 4 (number s)) 0 ≡ s.0
unfolding joined parts
first-number s h = low_part 64 s.0 _ h

-- the line of an edge
pub edge-line : (s t : EntrySet) (n : ℕ) → s.0 < 2 ^ 64 → t.0 < 2 ^ 64
    → line (decimal s.0 ++ space ∷ decimal t.0 ++ space ∷ decimal n) ≡ line (printed_set (words 4 (number s)) ++ space ∷ printed_set (words 4 (number t)) ++ space ∷ decimal n)
edge-line s t n h g = rw (first-number s h, first-number t g) refl
