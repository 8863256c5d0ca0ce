-- The flags of the atoms, written one by one, or compared. Assumes nothing.
use Rattle.std.proofs.Common.{◌≡◌, ℕ, ◌+◌, ◌≤◌, ◌<◌, Bool, true, false, List, length, get_or, set, refl, sym, ap, ◌∙◌, arith, ext_get_or, get_or-set_same, get_or-set_other, length-set, below_more}
use mir.Val.{bool_byte}
use Rattle.graphs.specs.Bools.{fails}
use Rattle.graphs.specs.Count.{ind}
use Rattle.graphs.specs.Tab.{tab-length, tab-at}
use Rattle.layout.specs.Patch.{part_long, part_at, is_patch}
use Rattle.move_ledger.specs.Ledger.{stays}
use Rattle.move_area.specs.ListLaws.{alike_one, one_alike}
use Rattle.move_area.specs.Fixed.{fixed_at, flags, flag, flagged}
use Rattle.move_fixed.specs.Flags.{atoms}

told : (b : Bool) → bool_byte b ≡ ind b
told true = refl
told false = refl

-- from `from` on the flags of the first k atoms stand
pub record Told (fixed : List ℕ) (from k : ℕ) (area : List ℕ) : Type 0 where
  pub at : (i : ℕ) → i < k → get_or area (from + i) 0 ≡ ind (stays fixed i)

pub told_none : {fixed : List ℕ} {from : ℕ} {area : List ℕ} → Told fixed from 0 area
told_none = record { at = λ i b. absurd (omega arith) }

-- one more, which stands there already
pub told_more : {fixed : List ℕ} {from k : ℕ} {area : List ℕ} → Told fixed from k area → get_or area (from + k) 0 ≡ bool_byte (stays fixed k) → Told fixed from (k + 1) area
told_more {fixed} {from} {k} {area} f e = record { at = below_more (λ i. get_or area (from + i) 0 ≡ ind (stays fixed i)) k f.at (e ∙ told (stays fixed k)) }

-- the flags of the first k atoms are written
pub record Written (fixed : List ℕ) (from k : ℕ) (area area' : List ℕ) : Type 0 where
  pub flags : Told fixed from k area'
  pub rest : (j : ℕ) → (from ≤ j → from + k ≤ j) → get_or area' j 0 ≡ get_or area j 0
  pub long : length area' ≡ length area

pub written_none : {fixed : List ℕ} {from : ℕ} {area : List ℕ} → Written fixed from 0 area area
written_none = record { flags = told_none; rest = λ j h. refl; long = refl }

pub written_more : {fixed : List ℕ} {from k : ℕ} {area area' : List ℕ} {x : ℕ} → Written fixed from k area area' → from + k < length area → x ≡ bool_byte (stays fixed k)
    → Written fixed from (k + 1) area (set area' (from + k) x)
written_more {fixed} {from} {k} {area} {area'} {x} v b h = record {
  flags = told_more (record { at = λ i c. get_or-set_other area' (from + k) (from + i) x 0 (omega arith) ∙ v.flags.at i c }) (get_or-set_same area' (from + k) x 0 (omega (arith, v.long)) ∙ h);
  rest = λ j z. get_or-set_other area' (from + k) j x 0 (λ e. let y = z (omega arith) in omega arith) ∙ v.rest j (λ y. let w = z y in omega arith);
  long = length-set area' (from + k) x ∙ v.long;
}

module _ {fixed : List ℕ} (n : ℕ) {k : ℕ} (e : k ≡ length fixed) where
  -- all are written
  pub kept_is : {area area' : List ℕ} → Written fixed (fixed_at n (length fixed)) k area area' → area' ≡ flag (atoms (length fixed)) fixed n area
  unfolding flag flags
  kept_is {area} {area'} v =
      let a = length fixed in
      let f : ℕ → ℕ = λ i. ind (stays fixed i) in
      is_patch (fixed_at n a) _ area area' v.long
      (λ i b z. let y : i < a = omega (arith, tab-length f a) in v.flags.at i (omega arith) ∙ sym (tab-at f a i y))
      (λ j b z. v.rest j (λ y. let w = z y in omega (arith, tab-length f a)))

  -- all are there
  pub keeps_yes : {area : List ℕ} → Told fixed (fixed_at n (length fixed)) k area → true ≡ flagged (atoms (length fixed)) fixed n area
  unfolding flagged flags
  keeps_yes {area} v =
      let a = length fixed in
      let f : ℕ → ℕ = λ i. ind (stays fixed i) in
      sym (one_alike _ _ (ext_get_or 0 _ _ (part_long (fixed_at n a) a area ∙ sym (tab-length f a)) (λ i b.
      let c : i < a = omega (arith, part_long (fixed_at n a) a area) in
      part_at (fixed_at n a) a area i c ∙ v.at i (omega arith) ∙ sym (tab-at f a i c))))

-- one is another
pub keeps_no : (fixed : List ℕ) (n : ℕ) (area : List ℕ) (k : ℕ) → k < length fixed → (get_or area (fixed_at n (length fixed) + k) 0 ≡ bool_byte (stays fixed k) → ⊥)
    → false ≡ flagged (atoms (length fixed)) fixed n area
unfolding flagged flags
keeps_no fixed n area k b d =
    let a = length fixed in
    sym (fails _ (λ t.
    d (sym (part_at (fixed_at n a) a area k b) ∙ ap (λ (u : List ℕ). get_or u k 0) (alike_one _ _ t) ∙ tab-at (λ i. ind (stays fixed i)) a k b ∙ sym (told (stays fixed k)))))
