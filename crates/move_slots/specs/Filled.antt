-- The edge slots of a placement: what is asked for them, and what is written. Assumes nothing.
use Rattle.std.specs.Prelude.{◌≡◌, true, List, ℕ, ◌+◌, ◌*◌, ◌≤◌, ◌<◌, length, get_or}
use Rattle.move_ledger.specs.Graph.{Load, at, members}
use Rattle.move_ledger.specs.LoadLaws.{Loadable}
use Rattle.move_slots.specs.SlotLaws.{Slotted}
use Rattle.move_area.specs.Bodies.{atom_at}

-- the load passes the rows 1 to 6, the area names `registered` sets, each atom's node is one of them, and the lists are long enough
pub record CanFill (load : Load) (n : ℕ) (nodes area : List ℕ) (registered : ℕ) (counts sources targets : List ℕ) : Type 0 where
  pub loadable : Loadable load n true (length area)
  pub many : registered ≡ get_or area (n * n) 0
  pub few : registered ≤ n
  pub atoms : load.A ≤ length nodes
  pub inside : (i : ℕ) → i < load.A → at nodes i < registered
  pub counts_long : n ≤ length counts
  pub sources_long : load.D + load.E ≤ length sources
  pub targets_long : load.D + load.E ≤ length targets

-- how many atoms each node has, and the first D + E slots
pub record Filled (load : Load) (n : ℕ) (nodes sets counts sources targets : List ℕ) : Type 0 where
  pub count_at : (x : ℕ) → x < n → at counts x ≡ members load nodes x
  pub slots : Slotted load nodes sets sources targets

-- the same for the area's own nodes
pub record CanFillOwn (load : Load) (n : ℕ) (area counts sources targets : List ℕ) : Type 0 where
  pub loadable : Loadable load n true (length area)
  pub few : get_or area (n * n) 0 ≤ n
  pub inside : (i : ℕ) → i < load.A → get_or area (atom_at n + i) 0 < get_or area (n * n) 0
  pub counts_long : n ≤ length counts
  pub sources_long : load.D + load.E ≤ length sources
  pub targets_long : load.D + load.E ≤ length targets
