-- The flags of lent marks, in an area. Assumes nothing.
use Rattle.std.specs.Prelude.{◌≡◌, ℕ, ◌+◌, ◌≤◌}
use Rattle.std.proofs.Math.Path.{refl}
use mathlib.Core.List.{List, []}
use Rattle.std.proofs.Math.ListN.{length}
use Rattle.move_ledger.specs.Graph.{Load, lent}
use Rattle.move_area.specs.Fixed.{fixed_at, flags, flag, flagged}

-- a load of a atoms: the flags ask no more
abbrev pub atoms : ℕ → Load
atoms a = lent a 0 0 [] [] []

-- the area has the second lane of as many atoms as there are marks
pub record CanKeep (n : ℕ) (fixed area : List ℕ) : Type 0 where
  pub room : fixed_at n (length fixed) + length fixed ≤ length area

-- of a load, its atoms alone matter
pub flag-atoms : (load : Load) (fixed : List ℕ) (N : ℕ) (area : List ℕ) {a : ℕ} → a ≡ load.A → flag (atoms a) fixed N area ≡ flag load fixed N area
unfolding flag flags
flag-atoms load fixed N area e = rw e refl

pub flagged-atoms : (load : Load) (fixed : List ℕ) (N : ℕ) (area : List ℕ) {a : ℕ} → a ≡ load.A → flagged (atoms a) fixed N area ≡ flagged load fixed N area
unfolding flagged flags
flagged-atoms load fixed N area e = rw e refl
