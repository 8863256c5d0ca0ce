-- What the rows 7 and 8 ask and tell, over the lent entry sets. Assumes nothing.
use Rattle.std.specs.Prelude.{ℕ, ◌*◌, ◌≤◌, ◌≡◌, cond, List, length}
use Rattle.entry_set.specs.Sets.{width}
use Rattle.move_ledger.specs.Graph.{Load}
use Rattle.move_ledger.specs.Loading.{row7, row8}

-- the first of the rows 7 and 8 that fits, 0 where none does
unfoldable pub set_row : Load → List ℕ → ℕ
set_row load sets = cond (row7 load sets) 7 (cond (row8 load sets) 8 0)

-- a list has the sets of a load's atoms
pub record CanSets (load : Load) (sets : List ℕ) : Type 0 where
  pub atoms : load.A ≤ 512
  pub bits : load.E ≤ 256
  pub full : length sets ≡ load.A * width load.E
