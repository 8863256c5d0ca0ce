-- What `new` answers and leaves, where a row from 1 to 8 fits and where none does. Assumes nothing.
use Rattle.std.specs.Prelude.{◌≡◌, Bool, List, ℕ, length}
use Rattle.std.proofs.Math.Path.{refl}
use Rattle.std.proofs.Math.Bool.{true, false, cond}
use borrow.Author.Tests.{ne_eqb}
use Rattle.graphs.specs.Walk.{cyclic}
use Rattle.move_ledger.specs.Graph.{Load, edge}
use Rattle.move_ledger.specs.Answer.{refused, acyclic}
use Rattle.move_ledger.specs.Answer as answer
use Rattle.move_ledger.specs.Loading.{entry_sets, loading_row, loading}
use Rattle.move_area.specs.Area.{encode}
use Rattle.move_area.specs.Fixed.{flag}
use Rattle.move_area.specs.Calls.{first, new}

module _ (load : Load) (fixed : List ℕ) (N : ℕ) (sets area : List ℕ) where
  -- row q fits
  pub new_refused : {q : ℕ} → q ≡ loading_row load fixed N sets (length area) → (q ≡ 0 → ⊥) → (refused q ≡ (new load fixed N sets area).answer) × (area ≡ (new load fixed N sets area).area)
  unfolding new loading
  new_refused {q} e h = rw (← e, ne_eqb q 0 h) (refl, refl)

  -- none does
  module _ (none : loading_row load fixed N sets (length area) ≡ 0) {c : Bool} (h : c ≡ cyclic (edge load (entry_sets load sets)) (entry_sets load sets)) where
    pub new-answer : cond c answer.cyclic acyclic ≡ (new load fixed N sets area).answer
    unfolding new loading
    new-answer = rw (none, ← h) refl

    pub new_area : {l : List ℕ} → l ≡ flag load fixed N (encode load N (first load N sets) area) → l ≡ (new load fixed N sets area).area
    unfolding new loading
    new_area {l} e = rw (none, ← h) (go c)
      where
        go : (b : Bool) → l ≡ cond (answer.is_refused (cond b answer.cyclic acyclic)) area (flag load fixed N (encode load N (first load N sets) area))
        go true = e
        go false = e
