-- What the tests on a part of a list decide. Assumes nothing.
use Rattle.std.specs.Prelude.{◌≡◌, List, ℕ, ◌+◌, ◌≤◌, ◌<◌, length, get_or}

-- n numbers from `at` on lie in the list
abbrev pub Within : List ℕ → ℕ → ℕ → Type 0
Within l at n = at + n ≤ length l

pub record CanCompare (a : List ℕ) (at : ℕ) (b : List ℕ) (from n : ℕ) : Type 0 where
  pub left : Within a at n
  pub right : Within b from n

-- the n numbers of a from `at` on are those of b from `from` on
abbrev pub SamePart : List ℕ → ℕ → List ℕ → ℕ → ℕ → Type 0
SamePart a at b from n = (i : ℕ) → i < n → get_or a (at + i) 0 ≡ get_or b (from + i) 0

-- each of k numbers from `at` on is at most, and is below, a bound
abbrev pub PartUpTo : List ℕ → ℕ → ℕ → ℕ → Type 0
PartUpTo l at k bound = (i : ℕ) → i < k → get_or l (at + i) 0 ≤ bound

abbrev pub PartBelow : List ℕ → ℕ → ℕ → ℕ → Type 0
PartBelow l at k bound = (i : ℕ) → i < k → get_or l (at + i) 0 < bound
