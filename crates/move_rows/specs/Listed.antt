-- What the rows 1 to 6 and 9 leave to the questions about all edges. Assumes nothing.
use Rattle.std.specs.Prelude.{ℕ, ◌*◌, ◌≤◌, ◌≡◌, refl, Bool, true, false, ◌&&◌, List, length, get_or}
use Rattle.std.proofs.Common.{arith, sym, subst, ◌∙◌}
use Rattle.graphs.specs.Bools.{and_both}
use Rattle.move_ledger.specs.Graph.{Load}
use Rattle.move_ledger.specs.Loading.{refusal}
use Rattle.move_ledger.proofs.LoadLaws.{refusal-none, refusal-marks}
use Rattle.move_area.specs.Area.{consistent}
use Rattle.move_area.specs.Fixed.{flagged}
use Rattle.move_fixed.specs.Flags.{atoms, CanKeep, flagged-atoms}
use Rattle.move_consistency.specs.Ready.{CanCheck, Told}
use Rattle.move_questions.specs.Answers.{Listable}
use Rattle.move_rows.specs.Later.{later, later_first, later-none, later_nine}

-- room for a number of each node, of as many as there can be
pub record NodeLists (degrees order : List ℕ) : Type 0 where
  pub degrees_long : 1024 ≤ length degrees
  pub order_long : 1024 ≤ length order

-- the first row that fits; where none does, the edges can be listed by `degrees` and `order`
pub record RowTold (load : Load) (fixed : List ℕ) (n : ℕ) (area degrees order : List ℕ) (q : ℕ) : Type 0 where
  pub row : q ≡ later load fixed n area
  pub listable : q ≡ 0 → Listable load n area (get_or area (n * n) 0) order degrees

and_false_left : (a b : Bool) → a ≡ false → (a && b) ≡ false
and_false_left a b h = rw h refl

and_false_right : (a b : Bool) → b ≡ false → (a && b) ≡ false
and_false_right true b h = h
and_false_right false b h = refl

module _ (load : Load) (fixed : List ℕ) (n : ℕ) (area : List ℕ) (passes : refusal load fixed n (length area) ≡ 0) where
  pub can_keep : CanKeep n fixed area
  can_keep =
      let s = (refusal-none load fixed n (length area) passes).sizes in
      record { room = omega (arith, s.area, refusal-marks load fixed n (length area) passes) }

  pub can_check : {degrees order : List ℕ} → NodeLists degrees order → CanCheck load n area degrees order
  can_check l =
      let p = refusal-none load fixed n (length area) passes in
      record { loadable = p; degrees_long = omega (arith, p.sizes.sets, l.degrees_long); order_long = omega (arith, p.sizes.sets, l.order_long) }

  kept : {k b : Bool} → k ≡ flagged (atoms (length fixed)) fixed n area → k ≡ b → flagged load fixed n area ≡ b
  kept e h = sym (e ∙ flagged-atoms load fixed n area (refusal-marks load fixed n (length area) passes)) ∙ h

module _ {load : Load} {fixed : List ℕ} {n : ℕ} {area degrees order : List ℕ} where
  pub row_first : {q : ℕ} → q ≡ refusal load fixed n (length area) → (q ≡ 0 → ⊥) → RowTold load fixed n area degrees order q
  row_first e h = record { row = later_first load fixed n area _ e h; listable = λ z. absurd (h z) }

  module _ {k : Bool} (passes : refusal load fixed n (length area) ≡ 0) (flags : k ≡ flagged (atoms (length fixed)) fixed n area) where
    -- the area's flags aren't those of the marks
    pub row_unkept : k ≡ false → RowTold load fixed n area degrees order 9
    row_unkept e =
        record {
          row = later_nine load fixed n area passes (and_false_right (consistent load n area) _ (kept load fixed n area passes flags e));
          listable = λ z. absurd (omega arith);
        }

    module _ {r : Bool} (t : Told load n area degrees order r) where
      pub row-none : 1024 ≤ length degrees → 1024 ≤ length order → k ≡ true → r ≡ true → RowTold load fixed n area degrees order 0
      row-none d o h e =
          let y = t.ready e in
          let z = y.loadable.sizes.sets in
          record {
            row = later-none load fixed n area passes (and_both (consistent load n area) _ (sym t.says ∙ e) (kept load fixed n area passes flags h));
            listable = λ z.
                record {
                  checked = record { loadable = y.loadable; ranged = y.ranged; worked = y.worked; sets = refl };
                  order_long = omega (arith, y.ranged.few);
                  degrees_long = omega arith;
                  ordered = y.ordered;
                  degree_at = y.degree_at;
                };
          }

      pub row_nine : r ≡ false → RowTold load fixed n area degrees order 9
      row_nine e =
          record {
            row = later_nine load fixed n area passes (and_false_left (consistent load n area) _ (sym t.says ∙ e));
            listable = λ z. absurd (omega arith);
          }

-- none fits: what the questions ask
module _ {load : Load} {fixed : List ℕ} {n : ℕ} {area degrees order : List ℕ} {q : ℕ} (t : RowTold load fixed n area degrees order q) (zero : q ≡ 0) where
  pub listable_known : {known : ℕ} → known ≡ get_or area (n * n) 0 → Listable load n area known order degrees
  listable_known e = subst (λ k. Listable load n area k order degrees) (sym e) (t.listable zero)

  pub listable_some : {known : ℕ} → known ≡ get_or area (n * n) 0 → (load' : Load) × Listable load' n area known order degrees
  listable_some e = (load, listable_known e)
