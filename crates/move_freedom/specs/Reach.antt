-- What a node reaches along slots: what is asked for it. Assumes nothing.
use Rattle.std.specs.Prelude.{ℕ, ◌≤◌, ◌<◌, ◌≡◌, List, length, get_or}
use Rattle.graphs.specs.Slots.{Ends}

-- m slots between n nodes, and no node is marked
pub record CanReach (s t : List ℕ) (m n root : ℕ) (marks : List ℕ) : Type 0 where
  pub slots : m ≤ 8448
  pub sources : m ≤ length s
  pub targets : m ≤ length t
  pub ends : Ends s t n m
  pub nodes : n ≤ 1025
  pub there : root < n
  pub cells : n ≤ length marks
  pub fresh : (x : ℕ) → x < n → get_or marks x 0 ≡ 0
