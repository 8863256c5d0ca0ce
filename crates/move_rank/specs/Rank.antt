-- Which of two placements of one load ranks first. Assumes nothing.
use Rattle.std.specs.Prelude.{ℕ, cond, List, [], ◌∷◌, ltb, length}
use Rattle.move_ledger.specs.Graph.{Load, rising, edges}

-- the first of the two comes before the second, is equal to it or comes after it
pub data Rank : Type 0 where
  before : Rank
  equal : Rank
  after : Rank

-- the smaller number first
unfoldable pub by : ℕ → ℕ → Rank
by x y = cond (ltb x y) before (cond (ltb y x) after equal)

-- the second where the first is equal
abbrev pub then : Rank → Rank → Rank
then before r = before
then equal r = r
then after r = after

-- the atoms' sets compared one by one as numbers from atom 0, the smaller first
unfoldable pub one_by_one : List ℕ → List ℕ → Rank
one_by_one [] [] = equal
one_by_one [] (y ∷ q) = before
one_by_one (x ∷ p) [] = after
one_by_one (x ∷ p) (y ∷ q) = then (by x y) (one_by_one p q)

-- fewer chunks come first, then fewer distinct edges, then the atoms' sets
unfoldable pub rank : Load → List ℕ → List ℕ → Rank
rank load p q = then (by (length (rising p)) (length (rising q))) (then (by (length (edges load p)) (length (edges load q))) (one_by_one p q))

-- the answer about the second of the two
abbrev pub turned : Rank → Rank
turned before = after
turned equal = equal
turned after = before
