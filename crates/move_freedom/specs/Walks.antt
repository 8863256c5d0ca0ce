-- What the two walks of an atom ask. Assumes nothing.
use Rattle.std.specs.Prelude.{ℕ, ◌+◌, ◌≤◌, List, length}
use Rattle.graphs.specs.Slots.{Ends}

-- m slots between the nodes with these atom counts and one more
pub record CanOpen (counts s t : List ℕ) (m : ℕ) : Type 0 where
  pub slots : m ≤ 8448
  pub sources : m ≤ length s
  pub targets : m ≤ length t
  pub ends : Ends s t (length counts + 1) m
  pub few : length counts ≤ 1024
