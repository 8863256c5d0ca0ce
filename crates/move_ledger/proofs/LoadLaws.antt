-- Theorems on the definitions of specs/LoadLaws: they stand here, so that the crate can be read with a definition changed. Assumes nothing.
use Prim.Native.Nat.{ℕ, ◌<◌}
use native.Mathlib.Omega.{arith}
use Rattle.std.proofs.Common.{sym, subst, ◌∙◌}
use Rattle.std.specs.Prelude.{◌≡◌, not, ◌||◌, List, length}
use Rattle.std.proofs.Math.Path.{refl}
use Rattle.std.proofs.Math.Bool.{Bool, true, false, cond}
use Rattle.std.proofs.Math.Dec.{eqb}
use borrow.Author.Tests.{eqb-true, eqb-false, not-false}
use Rattle.graphs.specs.Bools.{or_false_left, or_false_right, and_left, and_right}
use Rattle.move_ledger.specs.Graph.{Load}
use Rattle.move_ledger.specs.Loading.{row1, row2, row3, row4, row5, row6, first_row, marks_fit, refusal, row7, row8, loading_row}
use Rattle.move_ledger.specs.LoadLaws.{in_order, sized, Loadable, Loadable-sets, lists}
use Rattle.move_ledger.specs.LoadLaws as loadLaws_here

-- where a choice gives 0, and each row has its number, no row fits
none-fits : (b : Bool) (n q : ℕ) → 0 < n → cond b n q ≡ 0 → (b ≡ false) × (q ≡ 0)
none-fits true n q l h = absurd (omega arith)
none-fits false n q l h = (refl, h)

pub first_row-none : (load : Load) (N : ℕ) (lists : Bool) (size : ℕ) → first_row load N lists size ≡ 0 → Loadable load N lists size
unfolding first_row
first_row-none load N lists size h =
    let p₁ = none-fits (row1 load N) 1 _ (omega arith) h in
    let p₂ = none-fits (row2 load || not lists) 2 _ (omega arith) p₁.1 in
    let p₃ = none-fits (row3 load N size) 3 _ (omega arith) p₂.1 in
    let p₄ = none-fits (row4 load) 4 _ (omega arith) p₃.1 in
    let p₅ = none-fits (row5 load) 5 _ (omega arith) p₄.1 in
    let p₆ = none-fits (row6 load) 6 _ (omega arith) p₅.1 in
    record {
      sizes = sized load N size p₁.0 (or_false_left (row2 load) _ p₂.0) p₃.0;
      lengths = not-false _ (or_false_right (row2 load) _ p₂.0);
      order = in_order load p₄.0 p₅.0 p₆.0;
    }

-- of a later call: the marks are as many as atoms
module _ (load : Load) (fixed : List ℕ) (N size : ℕ) (h : refusal load fixed N size ≡ 0) where
  pub refusal-marks : length fixed ≡ load.A
  refusal-marks = eqb-true _ _ (first_row-none load N (marks_fit load fixed) size h).lengths

  pub refusal-first : first_row load N true size ≡ 0
  refusal-first = subst (λ t. first_row load N t size ≡ 0) (first_row-none load N (marks_fit load fixed) size h).lengths h

  pub refusal-none : Loadable load N true size
  refusal-none = first_row-none load N true size refusal-first

module _ (load : Load) (fixed : List ℕ) (N : ℕ) (sets : List ℕ) (size : ℕ) where
  abbrev late : ℕ
  late = cond (row7 load sets) 7 (cond (row8 load sets) 8 0)

  -- the rows 1 to 6 don't fit, nor do the rows 7 and 8
  both-none : loading_row load fixed N sets size ≡ 0 → (first_row load N (loadLaws_here.lists load fixed N sets size) size ≡ 0) × (late ≡ 0)
  unfolding loading_row
  both-none h = go (eqb (first_row load N (loadLaws_here.lists load fixed N sets size) size) 0) refl h
    where
      go : (t : Bool) → eqb (first_row load N (loadLaws_here.lists load fixed N sets size) size) 0 ≡ t → cond t late (first_row load N (loadLaws_here.lists load fixed N sets size) size) ≡ 0 → (first_row load N (loadLaws_here.lists load fixed N sets size) size ≡ 0) × (late ≡ 0)
      go true e f = (eqb-true _ _ e, f)
      go false e f = absurd (eqb-false _ _ e f)

  pub loading_row-none : loading_row load fixed N sets size ≡ 0 → Loadable-sets load N sets size
  loading_row-none h =
      let b = both-none h in
      let l = first_row-none load N (loadLaws_here.lists load fixed N sets size) size b.0 in
      let p₇ = none-fits (row7 load sets) 7 _ (omega arith) b.1 in
      let p₈ = none-fits (row8 load sets) 8 _ (omega arith) p₇.1 in
      record {
        loadable = record { sizes = l.sizes; lengths = and_right (marks_fit load fixed) _ l.lengths; order = l.order };
        seven = p₇.0;
        eight = p₈.0;
      }

  -- and a later call's rows 1 to 6 don't
  pub loading_row-later : loading_row load fixed N sets size ≡ 0 → refusal load fixed N size ≡ 0
  loading_row-later h =
      let q = (both-none h).0 in
      let l = (first_row-none load N (loadLaws_here.lists load fixed N sets size) size q).lengths in
      subst (λ t. first_row load N t size ≡ 0) (l ∙ sym (and_left (marks_fit load fixed) _ l)) q
