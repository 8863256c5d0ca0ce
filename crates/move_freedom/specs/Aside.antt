-- The slots with an atom set aside: what is asked for them. Assumes nothing.
use Rattle.std.specs.Prelude.{◌≡◌, true, List, ℕ, ◌+◌, ◌*◌, ◌≤◌, ◌<◌, length, get_or}
use Rattle.move_ledger.specs.Graph.{Load, at}
use Rattle.move_ledger.specs.LoadLaws.{Loadable}
use Rattle.move_area.specs.Checked.{nodes_in}

-- the load passes the rows 1 to 6, and each atom's node is one of the registered sets or the next
pub record CanFill (load : Load) (n : ℕ) (nodes area sources targets : List ℕ) : Type 0 where
  pub loadable : Loadable load n true (length area)
  pub few : get_or area (n * n) 0 ≤ n
  pub atoms : length nodes ≡ load.A
  pub inside : (i : ℕ) → i < load.A → at nodes i ≤ get_or area (n * n) 0
  pub sources_long : load.D + load.E ≤ length sources
  pub targets_long : load.D + load.E ≤ length targets

pub record CanSetAside (load : Load) (n : ℕ) (area : List ℕ) (atom : ℕ) (sources targets : List ℕ) : Type 0 where
  pub loadable : Loadable load n true (length area)
  pub few : get_or area (n * n) 0 ≤ n
  pub nodes : (i : ℕ) → i < load.A → at (nodes_in load n area) i < get_or area (n * n) 0
  pub there : atom < load.A
  pub sources_long : load.D + load.E ≤ length sources
  pub targets_long : load.D + load.E ≤ length targets
