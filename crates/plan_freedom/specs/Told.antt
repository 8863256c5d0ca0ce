-- What `freedom` answers: a matter of the load, the marks and the placement. Assumes nothing.
use Rattle.std.specs.Prelude.{ℕ, cond, Result, Ok, Err, List, eqb}
use Rattle.refusals.specs.declared.Refusal.{Refusal}
use Rattle.refusals.specs.Rows.{row}
use Rattle.move_ledger.specs.Graph.{Load}
use Rattle.move_area.specs.Area.{decode}
use Rattle.move_free_walks.specs.HowFree.{Freedom, how_free}
use Rattle.move_freedom.specs.declared.Counts.{Counts}
use Rattle.move_rows.specs.Later.{later}

-- `refused n` names row n of the table
pub data Told : Type 0 where
  refused : ℕ → Told
  counts : Freedom → Told

abbrev pub of_freedom : Result Counts Refusal → Told
of_freedom (Ok c) = counts (record { accepted = c.accepted; rejected = c.rejected; fixed = c.fixed })
of_freedom (Err r) = refused (row r)

-- the rows 1 to 6 and 9 come first; then accepted, rejected and fixed moves are counted, by the rule of a move
unfoldable pub told : Load → List ℕ → ℕ → List ℕ → Told
told load fixed N area =
    let q = later load fixed N area in
    cond (eqb q 0) (counts (how_free load fixed (decode load N area).ledger.place)) (refused q)
