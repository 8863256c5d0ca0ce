-- The graph of slots without the node behind all others: what is asked, and what is written. Assumes nothing.
use Rattle.std.specs.Prelude.{ℕ, ◌+◌, ◌≤◌, ◌≡◌, List, length}
use Rattle.graphs.specs.Slots.{Ends}
use Rattle.move_free_walks.specs.Blanked.{Blanks}

pub record CanBlank (s t : List ℕ) (m : ℕ) (s₀ t₀ : List ℕ) : Type 0 where
  pub sources : m ≤ length s
  pub targets : m ≤ length t
  pub kept_sources : m ≤ length s₀
  pub kept_targets : m ≤ length t₀

-- the first k slots are written
pub record BlankedTo (s t : List ℕ) (z k : ℕ) (s₀ t₀ s' t' : List ℕ) : Type 0 where
  pub blanks : Blanks s t s' t' z k
  pub long : length s' ≡ length s₀
  pub target_long : length t' ≡ length t₀

-- m slots between z + 1 nodes
pub record CanRest (s t : List ℕ) (m z : ℕ) : Type 0 where
  pub slots : m ≤ 8448
  pub sources : m ≤ length s
  pub targets : m ≤ length t
  pub ends : Ends s t (z + 1) m
  pub nodes : z ≤ 1024
  pub some : 1 ≤ z
