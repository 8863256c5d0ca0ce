-- What a loading asks for the flags of fixed atoms, and the area that it leaves. Assumes nothing.
use Rattle.std.specs.Prelude.{◌≡◌, List, ℕ}
use Rattle.std.proofs.Math.Path.{ap}
use Rattle.std.proofs.Common.{◌∙◌, arith, sym}
use Rattle.std.proofs.Math.ListN.{length}
use Rattle.move_ledger.specs.Graph.{Load}
use Rattle.move_ledger.specs.Loading.{loading_row}
use Rattle.move_ledger.proofs.LoadLaws.{refusal-marks, loading_row-none, loading_row-later}
use Rattle.move_area.specs.BodyLaws.{write_long}
use Rattle.move_area.specs.Area.{bodies, encode}
use Rattle.move_area.specs.Fixed.{flag}
use Rattle.move_area.specs.Calls.{first}
use Rattle.move_fixed.specs.Flags.{atoms, CanKeep, flag-atoms}

module _ (load : Load) (fixed : List ℕ) (n : ℕ) (sets area : List ℕ) where
  -- no row fits
  module _ (none : 0 ≡ loading_row load fixed n sets (length area)) where
    pub marks_are : length fixed ≡ load.A
    marks_are = refusal-marks load fixed n (length area) (loading_row-later load fixed n sets (length area) (sym none))

    -- l holds the first state
    pub can_flag : {l : List ℕ} → l ≡ encode load n (first load n sets) area → CanKeep n fixed l
    unfolding encode
    can_flag {l} e =
        let z = (loading_row-none load fixed n sets (length area) (sym none)).loadable.sizes in
        let long : length l ≡ length area = ap length e ∙ write_long n (bodies load n (first load n sets)) area in
        record { room = omega (arith, z.area, marks_are) }

  -- with the flags it is what `new` leaves
  pub flagged_area : {l l' : List ℕ} {a : ℕ} → a ≡ load.A → l ≡ encode load n (first load n sets) area → l' ≡ flag (atoms a) fixed n l → l' ≡ flag load fixed n (encode load n (first load n sets) area)
  flagged_area {l} z e f = f ∙ flag-atoms load fixed n l z ∙ ap (flag load fixed n) e
