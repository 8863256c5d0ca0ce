-- The source node of each facade edge, from sets in an area and atom counts in a list. Assumes nothing.
use Rattle.std.specs.Prelude.{◌≡◌, Bool, cond, ◌&&◌, List, ℕ, ◌+◌, ◌*◌, ◌^◌, ◌≤◌, ◌<◌, ltb, eqb, length, get_or}
use Rattle.graphs.specs.Tab.{tab}
use Rattle.entry_set.specs.Lanes.{lanes}
use Rattle.move_ledger.specs.Graph.{none}
use Rattle.move_ledger.specs.Nodes.{highest}

-- a node with the set X and `count` atoms is the source of bit b's facade edge
abbrev pub is_front : ℕ → ℕ → ℕ → Bool
is_front X count b = eqb X (2 ^ b) && ltb 0 count

-- so is node x, whose set stands at from + x
abbrev pub fronting : List ℕ → ℕ → ℕ → List ℕ → ℕ → ℕ → Bool
fronting area from stride counts b x = is_front (lanes area (from + x) stride) (get_or counts x 0) b

-- the node of each of e bits, of r nodes, None where there is none
unfoldable pub fronts_in : List ℕ → ℕ → ℕ → ℕ → List ℕ → ℕ → List ℕ
fronts_in area from stride r counts e = tab (λ b. highest (fronting area from stride counts b) r) e

pub record CanFront (area : List ℕ) (from stride : ℕ) (out : List ℕ) : Type 0 where
  pub lanes : from + 7 * stride < length area
  pub bits : length out ≤ 256

-- what one node, x, with the set X changes
pub record Fronted (X count x : ℕ) (l l' : List ℕ) : Type 0 where
  pub is : (b : ℕ) → b < length l → get_or l' b 0 ≡ cond (is_front X count b) x (get_or l b 0)
  pub long : length l' ≡ length l

pub record CanFronts (area : List ℕ) (from stride : ℕ) (counts out : List ℕ) : Type 0 where
  pub lanes : from + length counts + 7 * stride ≤ length area
  pub few : length counts ≤ none
  pub bits : length out ≤ 256
