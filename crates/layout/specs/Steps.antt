-- What the functions that write a list ask. Assumes nothing.
use Rattle.std.specs.Prelude.{List, ℕ, ◌+◌, ◌≤◌, length}

-- k numbers of `from`, from `start` on, fit into l at `at`
pub record CanCopy (l : List ℕ) (at : ℕ) (from : List ℕ) (start k : ℕ) : Type 0 where
  pub inside : at + k ≤ length l
  pub there : start + k ≤ length from
