-- Lent entry sets by their place, and the rows that look at them. Assumes nothing.
use Rattle.std.proofs.Common.{◌≡◌, ℕ, ◌+◌, ◌*◌, ◌^◌, ◌≤◌, ◌<◌, Bool, true, false, not, ◌&&◌, leb, ltb, List, length, take, drop, arith, ap, refl, sym, ◌∙◌}
use borrow.Author.Tests.{ltb-true, ltb-false, le-leb, lt-leb, ne_eqb, eqb-true}
use Rattle.graphs.specs.Bools.{Decides, or_false_left, or_false_right, and_right}
use Rattle.graphs.specs.Square.{row_in}
use Rattle.refusals.specs.Rows.{row, row_some}
use Rattle.refusals.specs.declared.Refusal.{Refusal}
use Rattle.entry_set.specs.Sets.{width, value}
use Rattle.set_order.specs.Order.{Distinct}
use Rattle.equal_sets.specs.Laid.{nth_set, repeats}
use Rattle.move_ledger.specs.Graph.{Load}
use Rattle.move_ledger.specs.Loading.{row1, row8, first_row, loading_row, marks_fit, sets_fit, lent_set}
use Rattle.move_ledger.proofs.LoadLaws.{first_row-none}
use Rattle.move_load_rows.specs.EntrySets.{CanSets, set_row}

-- set i has a bit at or above E
abbrev pub reaches : Load → List ℕ → ℕ → Bool
reaches load sets i = leb (2 ^ load.E) (lent_set load sets i)

module _ (load : Load) (sets : List ℕ) {w : ℕ} (wide : w ≡ width load.E) where
  pub set_in : CanSets load sets → (i : ℕ) → i < load.A → (w ≤ 4) × (i * w + w ≤ length sets)
  set_in can i l = (omega (arith, can.bits), omega (arith, can.full ∙ ap (λ v. load.A * v) (sym wide), row_in load.A w i l))

  pub reaches_is : (i : ℕ) {x : ℕ} {r : Bool} → x ≡ value (take w (drop (i * w) sets)) → r ≡ ltb x (2 ^ load.E) → not r ≡ reaches load sets i
  reaches_is i {x} {r} q h = go r refl
    where
      set : x ≡ lent_set load sets i
      set = q ∙ ap (λ v. value (take v (drop (i * v) sets))) wide

      go : (t : Bool) → r ≡ t → not t ≡ reaches load sets i
      go true e = sym (lt-leb (2 ^ load.E) _ (omega (arith, set, ltb-true x (2 ^ load.E) (sym h ∙ e))))
      go false e = sym (le-leb (2 ^ load.E) _ (omega (arith, set, ltb-false x (2 ^ load.E) (sym h ∙ e))))

  -- row 8 by distinct sets
  pub alike_is : {d : Bool} → Decides (Distinct (nth_set sets w) load.A) d → not d ≡ row8 load sets
  unfolding row8
  alike_is {d} r = rw (← wide) (repeats (nth_set sets w) load.A d r)

-- the lengths of the marks and the sets matter only where row 1 doesn't fit
module _ (load : Load) (fixed : List ℕ) (n : ℕ) (sets : List ℕ) (size : ℕ) {fit : Bool} (fits : load.A ≤ 512 → load.E ≤ 256 → fit ≡ (marks_fit load fixed && sets_fit load sets)) where
  fit_is : first_row load n fit size ≡ first_row load n (marks_fit load fixed && sets_fit load sets) size
  unfolding first_row
  fit_is = go (row1 load n) refl
    where
      go : (t : Bool) → row1 load n ≡ t → first_row load n fit size ≡ first_row load n (marks_fit load fixed && sets_fit load sets) size
      go true q = rw q refl
      go false q =
          let bits = or_false_right (ltb 8192 load.D) _ (or_false_right (ltb 512 load.A) _ q) in
          rw (fits (ltb-false _ _ (or_false_left (ltb 512 load.A) _ q)) (ltb-false _ _ (or_false_left (ltb 256 load.E) _ bits))) refl

  pub loading-early : (r : Refusal) → row r ≡ first_row load n fit size → row r ≡ loading_row load fixed n sets size
  unfolding loading_row
  loading-early r q = let e = q ∙ fit_is in rw (← e, ne_eqb (row r) 0 (row_some r)) refl

  pub loading-late : {x : ℕ} → 0 ≡ first_row load n fit size → x ≡ set_row load sets → x ≡ loading_row load fixed n sets size
  unfolding loading_row set_row
  loading-late q h = let e = q ∙ fit_is in rw (← e) h

  pub loading_can : 0 ≡ first_row load n fit size → CanSets load sets
  loading_can q =
      let l = first_row-none load n (marks_fit load fixed && sets_fit load sets) size (sym (q ∙ fit_is)) in
      record { atoms = l.sizes.atoms; bits = l.sizes.bits; full = eqb-true _ _ (and_right (marks_fit load fixed) _ l.lengths) }
