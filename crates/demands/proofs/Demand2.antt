-- Theorems on the definitions of specs/Demand2: they stand here, so that the crate can be read with a definition changed. Assumes nothing.
use Rattle.std.specs.Prelude.{ℕ, ◌≡◌, true, false, List, length}
use Rattle.std.proofs.Common.{sym, ap₂, subst}
use Rattle.move_ledger.specs.Graph.{Load}
use Rattle.move_ledger.specs.Answer.{is_refused}
use Rattle.move_ledger.specs.Ledger.{gives, move, Call}
use Rattle.move_ledger.specs.Loading.{refusal}
use Rattle.move_area.specs.Area.{decode}
use Rattle.move_area.specs.Fixed.{checks_out}
use Rattle.move_area.specs.Calls as on-area
use Rattle.demands.specs.History.{history, history-length}
use Rattle.demands.specs.Areas.{Fresh, holding, step-answer, step_after, step-fresh}
use Rattle.demands.specs.Demand2.{Decided, moved_exactly_acyclic}

-- and so after every loading and list of calls
pub moved_in_history : (load : Load) (fixed : List ℕ) (N : ℕ) (sets : List ℕ) (calls : List Call) (a : ℕ) (s : List ℕ)
    → is_refused (move load fixed N (history load fixed N sets calls) a s).answer ≡ false → Decided load (history load fixed N sets calls) a s (move load fixed N (history load fixed N sets calls) a s)
moved_in_history load fixed N sets calls a s = moved_exactly_acyclic load fixed N (history load fixed N sets calls) a s (history-length load fixed N sets calls)

-- The same on the areas that the calls are lent, from any area that no row from 1 to 9 turns back. What the area stores afterwards, counts, edges and
-- totals included, is what its placement says, and no row from 1 to 9 turns it back either
pub moved_on_areas : (load : Load) (fixed : List ℕ) (N : ℕ) (area : List ℕ) (a : ℕ) (s : List ℕ) → refusal load fixed N (length area) ≡ 0 → checks_out load fixed N area ≡ true
    → let called = on-area.try_move load fixed N area a s in
    is_refused called.answer ≡ false
    → Decided load (decode load N area).ledger a s (gives called.answer (decode load N called.area).ledger) × Fresh load fixed N (decode load N called.area).ledger called.area
moved_on_areas load fixed N area a s q c u =
    let l = (decode load N area).ledger in
    let h = holding load fixed N area q c in
    let e : (on-area.try_move load fixed N area a s).answer ≡ (move load fixed N (decode load N area).ledger a s).answer = step-answer load fixed N area a s h in (
      subst (Decided load l a s) (sym (ap₂ gives e (step_after load fixed N area a s h)))
          (moved_exactly_acyclic load fixed N l a s h.held.sound.atoms (subst (λ x. is_refused x ≡ false) e u)),
      step-fresh load fixed N area a s h,
    )
