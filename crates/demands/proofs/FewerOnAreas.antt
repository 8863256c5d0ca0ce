-- Theorems on the definitions of specs/Fewer: they stand here, so that the crate can be read with a definition changed. Assumes nothing.
use Rattle.std.specs.Prelude.{ℕ, ◌<◌, ◌≡◌, true, List, length}
use Rattle.std.proofs.Common.{arith, sym, ap, ◌∙◌, ext_get_or}
use Rattle.move_ledger.specs.Graph.{Load, at}
use Rattle.move_ledger.specs.Answer.{is_accepted}
use Rattle.move_ledger.specs.Ledger.{decide, move}
use Rattle.move_ledger.specs.Loading.{refusal}
use Rattle.move_area.specs.Area.{decode}
use Rattle.move_area.specs.Fixed.{checks_out}
use Rattle.move_area.specs.Calls as on-area
use Rattle.demands.specs.Areas.{holding, step-answer}
use Rattle.demands.specs.Fewer.{Fewer}
use Rattle.demands.proofs.Fewer.{accepted_stays}

-- on the areas that the calls are lent: two of them, each one that no row refuses for its load, which name the same set for each atom. What else
-- they hold, and their N, may differ
pub accepted_stays_on_areas : (few all : Load) (fixed : List ℕ) (N N' : ℕ) (area area' : List ℕ) (a : ℕ) (s : List ℕ) → Fewer few all
    → refusal few fixed N (length area) ≡ 0 → checks_out few fixed N area ≡ true → refusal all fixed N' (length area') ≡ 0 → checks_out all fixed N' area' ≡ true
    → ((atom : ℕ) → atom < all.A → at (decode few N area).ledger.place atom ≡ at (decode all N' area').ledger.place atom)
    → is_accepted (on-area.try_move all fixed N' area' a s).answer ≡ true → is_accepted (on-area.try_move few fixed N area a s).answer ≡ true
unfolding move
accepted_stays_on_areas few all fixed N N' area area' a s f q c q' c' same h =
    let w = holding few fixed N area q c in
    let w' = holding all fixed N' area' q' c' in
    let l : List ℕ = (decode few N area).ledger.place in
    let l' : List ℕ = (decode all N' area').ledger.place in
    let n : length l ≡ all.A = w.held.sound.atoms ∙ f.atoms in
    let e : l ≡ l' = ext_get_or 0 l l' (n ∙ sym w'.held.sound.atoms) (λ i b. same i (omega arith)) in
    ap is_accepted (step-answer few fixed N area a s w)
    ∙ accepted_stays few all fixed l a s f n (ap (λ p. is_accepted (decide all fixed p a s)) e ∙ sym (ap is_accepted (step-answer all fixed N' area' a s w')) ∙ h)
