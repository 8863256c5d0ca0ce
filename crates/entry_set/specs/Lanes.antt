-- A set in a work area: eight numbers of 32 bits, the low one first, a fixed stride apart. Assumes nothing.
use Rattle.std.specs.Prelude.{ℕ, zero, suc, ◌+◌, List, [], ◌∷◌, get_or, set}
use Rattle.entry_set.specs.Joined.{joined, parts}

-- the k numbers at at, at + stride, at + 2 * stride, ..
unfoldable pub strided : ℕ → List ℕ → ℕ → ℕ → List ℕ
strided zero l at stride = []
strided (suc k) l at stride = get_or l at 0 ∷ strided k l (at + stride) stride

-- the list with numbers put at at, at + stride, at + 2 * stride, ..
unfoldable pub set_strided : List ℕ → ℕ → ℕ → List ℕ → List ℕ
set_strided l at stride [] = l
set_strided l at stride (x ∷ xs) = set_strided (set l at x) (at + stride) stride xs

-- the eight numbers of the set that starts at `at`, and the set
abbrev pub lane_words : List ℕ → ℕ → ℕ → List ℕ
lane_words = strided 8

abbrev pub lanes : List ℕ → ℕ → ℕ → ℕ
lanes l at stride = joined 32 (lane_words l at stride)

-- the list with the set X written there
abbrev pub set_lanes : List ℕ → ℕ → ℕ → ℕ → List ℕ
set_lanes l at stride X = set_strided l at stride (parts 32 8 X)
