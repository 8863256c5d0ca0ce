-- So many of the numbers up to k pass. Assumes nothing.
use Rattle.std.proofs.Common.{◌≡◌, ℕ, ◌≤◌, Bool}
use Rattle.graphs.specs.Count.{count}
use Rattle.move_edges.proofs.rows.count_below.Given as goal

abbrev pub invariant-loop-k : goal.invariant-loop-k
invariant-loop-k g l = (l.found ≤ l.k) × ((test : ℕ → Bool) → ((k : ℕ) (r : Bool) → goal.F-post g l.passes k r → r ≡ test k) → l.found ≡ count test l.k)
