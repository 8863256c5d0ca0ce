-- Flags of the nodes that slots lead to. Assumes nothing.
use Rattle.std.specs.Prelude.{◌≡◌, false, not, ◌&&◌, ◌||◌, Bool, ℕ, ◌≤◌, ◌<◌, List, eqb, length, get_or}
use Rattle.graphs.specs.Lists.{some_below}

-- the slot from u to v is an edge between nodes other than `skip`, and u is marked
abbrev pub goes : List ℕ → ℕ → ℕ → ℕ → Bool
goes marks skip u v = not (eqb u v) && (not (eqb u skip) && (not (eqb v skip) && not (eqb (get_or marks u 0) 0)))

-- the slot from u to v is an edge from z
abbrev pub leaves : ℕ → ℕ → ℕ → Bool
leaves z u v = not (eqb u v) && eqb u z

-- so it is with one of the first k slots, by a test of their ends, and it goes to x
unfoldable pub stepped : (ℕ → ℕ → Bool) → List ℕ → List ℕ → ℕ → ℕ → Bool
stepped test s t k x = some_below (λ i. test (get_or s i 0) (get_or t i 0) && eqb (get_or t i 0) x) k

pub record CanFlag (s t : List ℕ) (m : ℕ) (flags : List Bool) : Type 0 where
  pub keys : m ≤ length s
  pub values : m ≤ length t
  pub target : (k : ℕ) → k < m → get_or t k 0 < length flags

-- the targets of those of the first k slots that pass are flagged
pub record Flagged (test : ℕ → ℕ → Bool) (s t : List ℕ) (k : ℕ) (flags flags' : List Bool) : Type 0 where
  pub each : (x : ℕ) → x < length flags → get_or flags' x false ≡ (stepped test s t k x || get_or flags x false)
  pub long : length flags' ≡ length flags

pub record CanStep (s t : List ℕ) (m : ℕ) (marks : List ℕ) (flags : List Bool) : Type 0 where
  pub flag : CanFlag s t m flags
  pub source : (k : ℕ) → k < m → get_or s k 0 < length marks
