-- The merge of two rows, number by number. Assumes nothing.
use Rattle.std.specs.Prelude.{ℕ, ◌+◌, ◌-◌, ◌*◌, ◌<◌, ◌≤◌, ◌≡◌, refl, true, false, not, ◌||◌, List, get_or, length, set, eqb}
use native.Mathlib.Omega.{arith}
use Rattle.std.proofs.Math.Decide.{ℕ_discrete, dec_lt}
use Rattle.std.proofs.Common.{sym, ap, ◌∙◌, length-set, get_or-set_same, get_or-set_other, le-leb, lt-ltb, le-ltb, eq-eqb, ne_eqb}
use Rattle.std.proofs.Math.Bool.{and-false, or-true}
use Rattle.std.proofs.Math.ListN.{get_or-eq_default}
use Rattle.std.proofs.lemmas.Bool.{lt-leb}
use Rattle.graphs.specs.Tab.{tab, tab-length, tab-at, is_tab}
use Rattle.entry_set.specs.SetLaws.{sets-room}
use Rattle.merge_area.specs.Writes.{union_cell, within, merging, merged_rows}
use Rattle.merge_laws.specs.Can.{CanMerge}

-- `within`
within-yes : (b k i : ℕ) → b ≤ i → i < b + k → within b k i ≡ true
unfolding within
within-yes b k i p q = rw (le-leb b i p) (lt-ltb i (b + k) q)

within-before : (b k i : ℕ) → i < b → within b k i ≡ false
unfolding within
within-before b k i p = rw (lt-leb b i p)

within-after : (b k i : ℕ) → b + k ≤ i → within b k i ≡ false
unfolding within
within-after b k i p = rw (le-leb b i (omega arith)) (le-ltb i (b + k) p)

within_none : (b i : ℕ) → within b 0 i ≡ false
within_none b i = elim (dec_lt i b) [ yes p ↦ within-before b 0 i p | no p ↦ within-after b 0 i (omega arith) ]

within_more : (b k i : ℕ) → (i ≡ b + k → ⊥) → within b (k + 1) i ≡ within b k i
within_more b k i n = elim (dec_lt i b) [
  | yes p ↦ within-before b (k + 1) i p ∙ sym (within-before b k i p)
  | no p ↦ elim (dec_lt i (b + k)) [
    | yes q ↦ within-yes b (k + 1) i (omega arith) (omega arith) ∙ sym (within-yes b k i (omega arith) q)
    | no q ↦ within-after b (k + 1) i (omega arith) ∙ sym (within-after b k i (omega arith))
  ]
]

-- two rows have no place in common
pub rows_apart : (c t s k i : ℕ) → (t ≡ s → ⊥) → k ≤ c → s * c ≤ i → i < s * c + c → within (t * c) k i ≡ false
rows_apart c t s k i n kc a b = elim (dec_lt t s) [
  | yes p ↦ within-after (t * c) k i (omega (arith, sets-room {i = t} {n = s} c p))
  | no p ↦ within-before (t * c) k i (omega (arith, sets-room {i = s} {n = t} c (omega arith)))
]

module _ {l : List ℕ} {c t s : ℕ} (can : CanMerge l c t s) where
  pub merging-none : (i : ℕ) → get_or l i 0 ≡ merging l c t s 0 i
  unfolding merging
  merging-none i = rw (within_none (t * c) i, within_none (s * c) i)

  pub at_target : (y k : ℕ) → y < k → k ≤ c → merging l c t s k (t * c + y) ≡ union_cell (get_or l (t * c + y) 0) (get_or l (s * c + y) 0) y t
  unfolding merging
  at_target y k a b = let e : t * c + y - t * c ≡ y = omega arith in rw (within-yes (t * c) k (t * c + y) (omega arith) (omega arith), e)

  pub at_source : (y k : ℕ) → y < k → k ≤ c → merging l c t s k (s * c + y) ≡ 0
  unfolding merging
  at_source y k a b =
      rw (rows_apart c t s k (s * c + y) can.differ b (omega arith) (omega arith), within-yes (s * c) k (s * c + y) (omega arith) (omega arith))

  pub at_none : (k i : ℕ) → within (t * c) k i ≡ false → within (s * c) k i ≡ false → merging l c t s k i ≡ get_or l i 0
  unfolding merging
  at_none k i a b = rw (a, b)

  pub cells_in : (x y : ℕ) → x < c → y < c → x * c + y < length l
  cells_in x y a b = omega (arith, sets-room {i = x} {n = c} c a, can.cells)

  -- number y of both rows is still as it was when its turn comes
  old-target : (y : ℕ) → y < c → merging l c t s y (t * c + y) ≡ get_or l (t * c + y) 0
  old-target y b = at_none y (t * c + y) (within-after (t * c) y (t * c + y) (omega arith)) (rows_apart c s t y (t * c + y) (λ q. can.differ (sym q)) (omega arith) (omega arith) (omega arith))

  old-source : (y : ℕ) → y < c → merging l c t s y (s * c + y) ≡ get_or l (s * c + y) 0
  old-source y b = at_none y (s * c + y) (rows_apart c t s y (s * c + y) can.differ (omega arith) (omega arith) (omega arith)) (within-after (s * c) y (s * c + y) (omega arith))

  merging-more : (k i : ℕ) → (i ≡ t * c + k → ⊥) → (i ≡ s * c + k → ⊥) → merging l c t s (k + 1) i ≡ merging l c t s k i
  unfolding merging
  merging-more k i a b = rw (within_more (t * c) k i a, within_more (s * c) k i b)

  module _ (d : List ℕ) {d' : List ℕ} {y : ℕ} (yc : y < c) (same : length d ≡ length l) (v : (i : ℕ) → i < length l → get_or d i 0 ≡ merging l c t s y i)
      (q : d' ≡ set (set d (t * c + y) (union_cell (get_or d (t * c + y) 0) (get_or d (s * c + y) 0) y t)) (s * c + y) 0) where
    next-length : length d' ≡ length l
    next-length = rw (q, length-set, length-set) same

    away : t * c + y ≡ s * c + y → ⊥
    away e = elim (dec_lt t s) [ yes p ↦ omega (arith, sets-room {i = t} {n = s} c p) | no p ↦ omega (arith, sets-room {i = s} {n = t} c (omega (arith, can.differ))) ]

    next_cells : (i : ℕ) → i < length l → get_or d' i 0 ≡ merging l c t s (y + 1) i
    next_cells i b =
        let u = union_cell (get_or d (t * c + y) 0) (get_or d (s * c + y) 0) y t in
        let ti = cells_in t y can.target yc in
        let si = cells_in s y can.source yc in
        let tv : get_or d (t * c + y) 0 ≡ get_or l (t * c + y) 0 = v (t * c + y) ti ∙ old-target y yc in
        let sv : get_or d (s * c + y) 0 ≡ get_or l (s * c + y) 0 = v (s * c + y) si ∙ old-source y yc in
        elim (ℕ_discrete i (s * c + y)) [
          | yes e ↦ rw (e, q) (get_or-set_same (set d (t * c + y) u) (s * c + y) 0 0 (rw length-set (omega arith)) ∙ sym (at_source y (y + 1) (omega arith) (omega arith)))
          | no n ↦ elim (ℕ_discrete i (t * c + y)) [
            | yes e ↦ rw (e, q) (get_or-set_other (set d (t * c + y) u) (s * c + y) (t * c + y) 0 0 away ∙ get_or-set_same d (t * c + y) u 0 (omega arith)
                ∙ (rw (tv, sv) (sym (at_target y (y + 1) (omega arith) (omega arith)))))
            | no m ↦ rw q (get_or-set_other (set d (t * c + y) u) (s * c + y) i 0 0 n ∙ get_or-set_other d (t * c + y) i u 0 m ∙ v i b ∙ sym (merging-more y i m n))
          ]
        ]

-- the first y numbers of both rows are done
pub record Half (l : List ℕ) (c t s : ℕ) (d : List ℕ) (y : ℕ) : Type 0 where
  pub far : y ≤ c
  pub same : length d ≡ length l
  pub cells : (i : ℕ) → i < length l → get_or d i 0 ≡ merging l c t s y i

pub half_none : {l : List ℕ} {c t s : ℕ} → CanMerge l c t s → Half l c t s l 0
half_none can = record { far = omega arith; same = refl; cells = λ i b. merging-none can i }

pub half_can : {l : List ℕ} {c t s : ℕ} {d : List ℕ} {y : ℕ} → CanMerge l c t s → Half l c t s d y → y < c → (t * c + y < length d) × (s * c + y < length d)
half_can {l} {c} {t} {s} {d} {y} can h b = (omega (arith, cells_in can t y can.target b, h.same), omega (arith, cells_in can s y can.source b, h.same))

pub half_more : {l : List ℕ} {c t s : ℕ} {d d' : List ℕ} {y : ℕ} → CanMerge l c t s → Half l c t s d y → y < c
    → d' ≡ set (set d (t * c + y) (union_cell (get_or d (t * c + y) 0) (get_or d (s * c + y) 0) y t)) (s * c + y) 0 → Half l c t s d' (y + 1)
half_more {d} can h b q = record { far = omega arith; same = next-length can d b h.same h.cells q; cells = next_cells can d b h.same h.cells q }

pub half_done : {l : List ℕ} {c t s : ℕ} {d : List ℕ} {y : ℕ} → Half l c t s d y → c ≤ y → d ≡ merged_rows l c t s
unfolding merged_rows
half_done {l} {c} {t} {s} {d} {y} h b =
    let e : y ≡ c = omega (arith, h.far) in
    is_tab d (length l) (merging l c t s c) h.same (λ i r. h.cells i r ∙ ap (λ k. merging l c t s k i) e)

-- one number of a union
pub union_self : (a b y t : ℕ) → y ≡ t → 0 ≡ union_cell a b y t
unfolding union_cell
union_self a b y t h = rw (eq-eqb y t h, and-false (not (eqb a 0) || not (eqb b 0)))

pub union_left : (a b y t : ℕ) → (y ≡ t → ⊥) → (a ≡ 0 → ⊥) → 1 ≡ union_cell a b y t
unfolding union_cell
union_left a b y t h k = rw (ne_eqb y t h, ne_eqb a 0 k)

pub union_right : (a b y t : ℕ) → (y ≡ t → ⊥) → (b ≡ 0 → ⊥) → 1 ≡ union_cell a b y t
unfolding union_cell
union_right a b y t h k = rw (ne_eqb y t h, ne_eqb b 0 k, or-true (not (eqb a 0)))

pub union-none : (a b y t : ℕ) → a ≡ 0 → b ≡ 0 → 0 ≡ union_cell a b y t
unfolding union_cell
union-none a b y t h k = rw (h, k)

-- beyond the rows nothing changes
pub rows-kept : {l : List ℕ} {c t s : ℕ} → CanMerge l c t s → (i : ℕ) → c * c ≤ i → get_or (merged_rows l c t s) i 0 ≡ get_or l i 0
unfolding merged_rows
rows-kept {l} {c} {t} {s} can i h = elim (dec_lt i (length l)) [
  | yes b ↦ tab-at (merging l c t s c) (length l) i b ∙ at_none can c i (within-after (t * c) c i (omega (arith, sets-room {i = t} {n = c} c can.target))) (within-after (s * c) c i (omega (arith, sets-room {i = s} {n = c} c can.source)))
  | no b ↦ get_or-eq_default (tab (merging l c t s c) (length l)) 0 (omega (arith, tab-length (merging l c t s c) (length l))) ∙ sym (get_or-eq_default l 0 (omega arith))
]

pub merged-length : (l : List ℕ) (c t s : ℕ) → length (merged_rows l c t s) ≡ length l
unfolding merged_rows
merged-length l c t s = tab-length (merging l c t s c) (length l)
