-- The kept totals of an area. Assumes nothing.
use Rattle.std.specs.Prelude.{◌≡◌, List, ℕ, ◌+◌, ◌*◌, get_or}
use Rattle.move_ledger.specs.Graph.{Load}
use Rattle.move_ledger.specs.Nodes.{sources, targets}
use Rattle.move_ledger.specs.Totals.{busy_nodes, filled_cells}
use Rattle.move_area.specs.Area.{sets_in}
use Rattle.move_area.specs.Checked.{nodes_in}

-- so many occupied sets, and so many distinct edges
pub record TotalsAre (chunks edges n : ℕ) (area : List ℕ) : Type 0 where
  pub occupied : get_or area (n * n + 3) 0 ≡ chunks
  pub distinct : get_or area (n * n + 4) 0 ≡ edges

-- they are those of the load and the area's placement
abbrev pub Totalled : Load → ℕ → List ℕ → Type 0
Totalled load n area =
    (get_or area (n * n + 3) 0 ≡ busy_nodes load (nodes_in load n area) n)
    × (get_or area (n * n + 4) 0 ≡ filled_cells (sources load (nodes_in load n area) (sets_in n area)) (targets load (nodes_in load n area) (sets_in n area)) n (load.D + load.E))
