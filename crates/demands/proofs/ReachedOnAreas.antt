-- Theorems on the definitions of specs/Reached: they stand here, so that the crate can be read with a definition changed. Assumes nothing.
use Rattle.std.specs.Prelude.{ℕ, ◌-◌, ◌≤◌, ◌≡◌, cond, List}
use Rattle.std.proofs.Math.Bool.{true}
use Rattle.std.proofs.Math.ListN.{length}
use Rattle.entry_set.specs.Sets.{value}
use Rattle.move_ledger.specs.Graph.{Load, rising, reach}
use Rattle.move_ledger.specs.Answer.{is_accepted, reported}
use Rattle.move_ledger.specs.Loading.{refusal}
use Rattle.move_area.specs.Area.{decode}
use Rattle.move_area.specs.Fixed.{checks_out}
use Rattle.move_area.specs.Calls as on-area
use Rattle.demands.specs.Areas.{holding, step-answer, step_after}
use Rattle.demands.specs.Reached.{move-reached}
use Rattle.demands.proofs.Reached.{reached_bound}

-- and so on the areas that the calls are lent
pub reached_on_areas : (load : Load) (fixed : List ℕ) (N : ℕ) (area : List ℕ) (a : ℕ) (s : List ℕ) → refusal load fixed N (length area) ≡ 0 → checks_out load fixed N area ≡ true
    → let called = on-area.try_move load fixed N area a s in
    ((reported called.answer).reached ≡ cond (is_accepted called.answer) (reach load (decode load N called.area).ledger.place (value s)) 0)
    × ((reported called.answer).reached ≤ length (rising (decode load N called.area).ledger.place) - 1)
reached_on_areas load fixed N area a s q c =
    let h = holding load fixed N area q c in
    rw (step-answer load fixed N area a s h, step_after load fixed N area a s h)
    (move-reached load fixed N (decode load N area).ledger a s, reached_bound load fixed N (decode load N area).ledger a s h.held.sound.atoms)
