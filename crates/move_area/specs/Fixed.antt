-- Which atoms are fixed, as an area keeps it. Assumes nothing.
use Rattle.std.specs.Prelude.{Bool, ◌&&◌, List, ℕ, ◌+◌}
use Rattle.graphs.specs.Count.{ind}
use Rattle.graphs.specs.Tab.{tab}
use Rattle.layout.specs.Patch.{patch, part}
use Rattle.move_ledger.specs.Graph.{Load}
use Rattle.move_ledger.specs.Ledger.{stays}
use Rattle.move_area.specs.Bodies.{atom_at}
use Rattle.move_area.specs.Area.{alike_lists, consistent}

-- where the atoms' second lane starts
abbrev pub fixed_at : ℕ → ℕ → ℕ
fixed_at n a = atom_at n + a

-- 1 for each fixed atom, else 0, whatever its mark is
unfoldable pub flags : Load → List ℕ → List ℕ
flags load fixed = tab (λ i. ind (stays fixed i)) load.A

-- an area with the flags written. They are no part of a state: no move changes them
unfoldable pub flag : Load → List ℕ → ℕ → List ℕ → List ℕ
flag load fixed N area = patch (fixed_at N load.A) (flags load fixed) area

-- an area's flags are those of the marks
unfoldable pub flagged : Load → List ℕ → ℕ → List ℕ → Bool
flagged load fixed N area = alike_lists (part (fixed_at N load.A) load.A area) (flags load fixed)

-- what row 9 asks of an area: it is consistent, and its flags are those of the marks
abbrev pub checks_out : Load → List ℕ → ℕ → List ℕ → Bool
checks_out load fixed N area = consistent load N area && flagged load fixed N area
