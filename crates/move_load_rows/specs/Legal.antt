-- What the checks leave where they find nothing. Of the rows 1 to 6 `first_row-none` of the ledger says it, of the rows 1 to 8
-- `loading_row-none`. Assumes nothing.
use Rattle.std.specs.Prelude.{◌≡◌, refl, false}
use Rattle.std.proofs.Common.{sym, ◌∙◌}
use Rattle.move_ledger.specs.Graph.{Load}
use Rattle.move_ledger.specs.Loading.{row4}
use Rattle.move_ledger.specs.LoadLaws.{Starts, row4_starts}
use Rattle.move_load_rows.specs.Checks.{falling, bad_starts}

-- row 4 is the general test of starts
pub row4_is : (load : Load) → bad_starts load.starts load.A load.D ≡ row4 load
unfolding bad_starts falling row4
row4_is load = refl

-- starts that aren't faulty: from 0, rising, ending at the total
pub good_starts : (load : Load) → bad_starts load.starts load.A load.D ≡ false → Starts load
good_starts load h = row4_starts load (sym (row4_is load) ∙ h)
