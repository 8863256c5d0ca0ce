-- The rows 1 to 6 and 9, which come before a later call's own. Assumes nothing.
use Rattle.std.specs.Prelude.{ℕ, ◌≡◌, Bool, List, length}
use Rattle.std.proofs.Common.{arith, ◌∙◌, sym, ap}
use Rattle.std.proofs.Math.Path.{refl}
use Rattle.std.proofs.Math.Bool.{true, false, cond}
use Rattle.std.proofs.Math.Dec.{eqb}
use borrow.Author.Tests.{eqb-true, eqb-false, eq-eqb, ne_eqb}
use Rattle.graphs.specs.Bools.{and_left}
use Rattle.move_ledger.specs.Graph.{Load}
use Rattle.move_ledger.specs.Answer.{Answer, refused}
use Rattle.move_ledger.specs.Loading.{refusal, or_else}
use Rattle.move_area.specs.Area.{consistent}
use Rattle.move_area.specs.Fixed.{checks_out}
use Rattle.move_area.specs.Calls.{checked}
use Rattle.refusals.specs.Rows.{row, row_some}
use Rattle.refusals.specs.declared.Refusal.{Refusal}

-- the first of the rows 1 to 6 and 9 that fits, 0 where none does
unfoldable pub later : Load → List ℕ → ℕ → List ℕ → ℕ
later load fixed N area = or_else (refusal load fixed N (length area)) (cond (checks_out load fixed N area) 0 9)

module _ (load : Load) (fixed : List ℕ) (N : ℕ) (area : List ℕ) where
  -- a call that such a row turns back
  pub turned-back : (later load fixed N area ≡ 0 → ⊥) → (x : Answer) → checked load fixed N area x ≡ refused (later load fixed N area)
  unfolding later checked
  turned-back h x = go (eqb (refusal load fixed N (length area)) 0) refl (checks_out load fixed N area) h
    where
      go : (t : Bool) → eqb (refusal load fixed N (length area)) 0 ≡ t → (u : Bool) → (cond t (cond u 0 9) (refusal load fixed N (length area)) ≡ 0 → ⊥)
          → cond t (cond u x (refused 9)) (refused (refusal load fixed N (length area))) ≡ refused (cond t (cond u 0 9) (refusal load fixed N (length area)))
      go true e true f = absurd (f refl)
      go true e false f = refl
      go false e u f = refl

  -- and one that none does
  pub goes_on : later load fixed N area ≡ 0 → (x : Answer) → checked load fixed N area x ≡ x
  unfolding later checked
  goes_on h x = go (eqb (refusal load fixed N (length area)) 0) refl (checks_out load fixed N area) h
    where
      go : (t : Bool) → eqb (refusal load fixed N (length area)) 0 ≡ t → (u : Bool) → cond t (cond u 0 9) (refusal load fixed N (length area)) ≡ 0
          → cond t (cond u x (refused 9)) (refused (refusal load fixed N (length area))) ≡ x
      go true e true f = refl
      go true e false f = absurd (omega arith)
      go false e u f = absurd (eqb-false _ _ e f)

  pub later-legal : later load fixed N area ≡ 0 → refusal load fixed N (length area) ≡ 0
  unfolding later
  later-legal h = go (eqb (refusal load fixed N (length area)) 0) refl (cond (checks_out load fixed N area) 0 9) h
    where
      go : (t : Bool) → eqb (refusal load fixed N (length area)) 0 ≡ t → (k : ℕ) → cond t k (refusal load fixed N (length area)) ≡ 0 → refusal load fixed N (length area) ≡ 0
      go true e k f = eqb-true _ _ e
      go false e k f = f

  pub later_checks : later load fixed N area ≡ 0 → checks_out load fixed N area ≡ true
  unfolding later
  later_checks h = go (eqb (refusal load fixed N (length area)) 0) refl (checks_out load fixed N area) refl h
    where
      go : (t : Bool) → eqb (refusal load fixed N (length area)) 0 ≡ t → (u : Bool) → checks_out load fixed N area ≡ u → cond t (cond u 0 9) (refusal load fixed N (length area)) ≡ 0 → checks_out load fixed N area ≡ true
      go true e true q f = q
      go true e false q f = absurd (omega arith)
      go false e u q f = absurd (eqb-false _ _ e f)

  pub later-consistent : later load fixed N area ≡ 0 → consistent load N area ≡ true
  later-consistent h = and_left (consistent load N area) _ (later_checks h)

-- which row it is
pub later_first : (load : Load) (fixed : List ℕ) (N : ℕ) (area : List ℕ) (q : ℕ) → q ≡ refusal load fixed N (length area) → (q ≡ 0 → ⊥) → q ≡ later load fixed N area
unfolding later
later_first load fixed N area q e h = rw (ne_eqb (refusal load fixed N (length area)) 0 (λ z. h (e ∙ z))) e

pub later-none : (load : Load) (fixed : List ℕ) (N : ℕ) (area : List ℕ) → refusal load fixed N (length area) ≡ 0 → checks_out load fixed N area ≡ true → 0 ≡ later load fixed N area
unfolding later
later-none load fixed N area e c = rw (eq-eqb (refusal load fixed N (length area)) 0 e, c) refl

pub later_nine : (load : Load) (fixed : List ℕ) (N : ℕ) (area : List ℕ) → refusal load fixed N (length area) ≡ 0 → checks_out load fixed N area ≡ false → 9 ≡ later load fixed N area
unfolding later
later_nine load fixed N area e c = rw (eq-eqb (refusal load fixed N (length area)) 0 e, c) refl

-- a call that is refused by one of these rows
pub turned_by : (load : Load) (fixed : List ℕ) (N : ℕ) (area : List ℕ) (r : Refusal) → row r ≡ later load fixed N area → (x : Answer) → checked load fixed N area x ≡ refused (row r)
turned_by load fixed N area r e x = turned-back load fixed N area (λ z. row_some r (e ∙ z)) x ∙ ap refused (sym e)
