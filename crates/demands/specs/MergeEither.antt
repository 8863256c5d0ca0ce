-- Two merges of distinct sources, neither source the other's target, leave the same area in either order. Assumes nothing.
use Rattle.std.specs.Prelude.{ℕ, ◌+◌, ◌*◌, ◌/◌, ◌%◌, ◌<◌, ◌≤◌, ◌≡◌, refl, Bool, true, false, not, ◌&&◌, ◌||◌, List, length, eqb}
use Rattle.std.proofs.Common.{mod-lt, div-add-mod', div-lt_iff_lt-mul, arith, sym, ap, ◌∙◌, ext_get_or}
use Rattle.std.proofs.Math.Decide.{ℕ_discrete, dec_lt}
use Rattle.std.proofs.Math.Bool.{and-false}
use Rattle.graphs.specs.Count.{ind}
use Rattle.merge_state.specs.declared.Sizes.{Sizes}
use Rattle.merge_state.specs.State as state
use Rattle.merge_area.specs.Layout.{cell, head, side, into}
use Rattle.merge_area.specs.Read.{mode_in}
use Rattle.merge_area.specs.Writes.{union_cell, merge_area}
use Rattle.merge_laws.specs.Can.{CanMergeArea}
use Rattle.merge_reads.specs.Fields.{yes-ind, mode_same}
use Rattle.merge_reads.specs.Cells.{area_length, area_target, area_source, area_other, area_side, area_rest, area_into, area_unmarked}

or_swap : (a b c u : Bool) → ((((a || b) && u) || c) && u) ≡ ((((a || c) && u) || b) && u)
or_swap a b c false = and-false ((a || b) && false || c) ∙ sym (and-false ((a || c) && false || b))
or_swap true b c true = refl
or_swap false true true true = refl
or_swap false true false true = refl
or_swap false false true true = refl
or_swap false false false true = refl

or_last : (a b c : Bool) → ((a || b) || c) ≡ ((a || c) || b)
or_last true b c = refl
or_last false true true = refl
or_last false true false = refl
or_last false false true = refl
or_last false false false = refl

-- a number of the target's row, and the target's side effects, after two merges
union-swap : (u v w y t : ℕ) → union_cell (union_cell u v y t) w y t ≡ union_cell (union_cell u w y t) v y t
unfolding union_cell
union-swap u v w y t =
    rw (yes-ind ((state.yes u || state.yes v) && not (eqb y t)), yes-ind ((state.yes u || state.yes w) && not (eqb y t)))
    (ap ind (or_swap (state.yes u) (state.yes v) (state.yes w) (not (eqb y t))))

side_swap : (u v w : ℕ) → ind (state.yes (ind (state.yes u || state.yes v)) || state.yes w) ≡ ind (state.yes (ind (state.yes u || state.yes w)) || state.yes v)
side_swap u v w = rw (yes-ind (state.yes u || state.yes v), yes-ind (state.yes u || state.yes w)) (ap ind (or_last (state.yes u) (state.yes v) (state.yes w)))

-- two merges that may both be done, of distinct sources, where neither source is the other's target
pub record CanSwap (z : Sizes) (a : List ℕ) (t s u v : ℕ) : Type 0 where
  pub one : CanMergeArea z a t s
  pub two : CanMergeArea z a u v
  pub apart : s ≡ v → ⊥
  pub free : s ≡ u → ⊥
  pub alone : v ≡ t → ⊥

turn_round : {z : Sizes} {a : List ℕ} {t s u v : ℕ} → CanSwap z a t s u v → CanSwap z a u v t s
turn_round c = record { one = c.two; two = c.one; apart = λ k. c.apart (sym k); free = c.alone; alone = c.free }

module _ (z : Sizes) (a : List ℕ) (t s u v : ℕ) (c : CanSwap z a t s u v) where
  -- the second merge, after the first
  next : CanMergeArea z (merge_area z a t s) u v
  next = record {
    within = c.two.within;
    long = omega (arith, area_length z a t s c.one, c.one.long);
    target = c.two.target;
    source = c.two.source;
    differ = c.two.differ;
  }

module _ (z : Sizes) (a : List ℕ) (t s u v : ℕ) (c : CanSwap z a t s u v) where
  abbrev one_first : List ℕ
  one_first = merge_area z (merge_area z a t s) u v

  abbrev two_first : List ℕ
  two_first = merge_area z (merge_area z a u v) t s

  n₁ : CanMergeArea z (merge_area z a t s) u v
  n₁ = next z a t s u v c

  n₂ : CanMergeArea z (merge_area z a u v) t s
  n₂ = next z a u v t s (turn_round c)

  source_row : (y : ℕ) → y < z.chunks → cell one_first (s * z.chunks + y) ≡ cell two_first (s * z.chunks + y)
  source_row y b =
      area_other z (merge_area z a t s) u v n₁ s y c.one.source b c.free c.apart ∙ area_source z a t s c.one y b ∙ sym (area_source z (merge_area z a u v) t s n₂ y b)

  target_row : (y : ℕ) → y < z.chunks → cell one_first (t * z.chunks + y) ≡ cell two_first (t * z.chunks + y)
  target_row y b = elim (ℕ_discrete t u) [
    | yes q ↦
        let e₁ = area_target z (merge_area z a t s) u v n₁ y b in
        let e₂ = area_target z a t s c.one y b in
        let e₃ = area_other z a t s c.one v y c.two.source b c.alone (λ k. c.apart (sym k)) in
        let e₄ = area_target z (merge_area z a u v) t s n₂ y b in
        let e₅ = area_target z a u v c.two y b in
        let e₆ = area_other z a u v c.two s y c.one.source b c.free c.apart in
        cc (union-swap (cell a (t * z.chunks + y)) (cell a (s * z.chunks + y)) (cell a (v * z.chunks + y)) y t)
    | no q ↦
        let e₁ = area_other z (merge_area z a t s) u v n₁ t y c.one.target b q (λ k. c.alone (sym k)) in
        let e₂ = area_target z a t s c.one y b in
        let e₃ = area_target z (merge_area z a u v) t s n₂ y b in
        let e₄ = area_other z a u v c.two t y c.one.target b q (λ k. c.alone (sym k)) in
        let e₅ = area_other z a u v c.two s y c.one.source b c.free c.apart in
        cc
  ]

  target-side : cell one_first (side z t) ≡ cell two_first (side z t)
  target-side = elim (ℕ_discrete t u) [
    | yes q ↦
        let e₁ = area_side z (merge_area z a t s) u v n₁ in
        let e₂ = area_side z a t s c.one in
        let e₃ = area_rest z a t s c.one (side z v) (omega arith) (omega (arith, c.alone)) (omega (arith, c.two.source)) in
        let e₄ = area_side z (merge_area z a u v) t s n₂ in
        let e₅ = area_side z a u v c.two in
        let e₆ = area_rest z a u v c.two (side z s) (omega arith) (omega (arith, c.free)) (omega (arith, c.one.source)) in
        cc (side_swap (cell a (side z t)) (cell a (side z s)) (cell a (side z v)))
    | no q ↦
        let e₁ = area_rest z (merge_area z a t s) u v n₁ (side z t) (omega arith) (omega arith) (omega (arith, c.one.target)) in
        let e₂ = area_side z a t s c.one in
        let e₃ = area_side z (merge_area z a u v) t s n₂ in
        let e₄ = area_rest z a u v c.two (side z t) (omega arith) (omega arith) (omega (arith, c.one.target)) in
        let e₅ = area_rest z a u v c.two (side z s) (omega arith) (omega (arith, c.free)) (omega (arith, c.one.source)) in
        cc
  ]

  other_row : (x y : ℕ) → x < z.chunks → y < z.chunks → (x ≡ t → ⊥) → (x ≡ s → ⊥) → (x ≡ u → ⊥) → (x ≡ v → ⊥) → cell one_first (x * z.chunks + y) ≡ cell two_first (x * z.chunks + y)
  other_row x y b d p q m n =
      area_other z (merge_area z a t s) u v n₁ x y b d m n ∙ area_other z a t s c.one x y b d p q
      ∙ sym (area_other z (merge_area z a u v) t s n₂ x y b d p q ∙ area_other z a u v c.two x y b d m n)

  -- each source's own merge
  source-into : cell one_first (into z s) ≡ cell two_first (into z s)
  source-into = go (mode_in z a) refl
    where
      e₁ : cell one_first (into z s) ≡ cell (merge_area z a t s) (into z s)
      e₁ = area_rest z (merge_area z a t s) u v n₁ (into z s) (omega arith) (omega (arith, c.two.target)) (omega (arith, c.apart))

      same-mode : mode_in z (merge_area z a u v) ≡ mode_in z a
      same-mode = mode_same z a (merge_area z a u v) (area_rest z a u v c.two (head z 5) (omega arith) (omega arith) (omega arith))

      go : (m : Bool) → mode_in z a ≡ m → cell one_first (into z s) ≡ cell two_first (into z s)
      go true m = e₁ ∙ area_into z a t s c.one m ∙ sym (area_into z (merge_area z a u v) t s n₂ (same-mode ∙ m))
      go false m =
          e₁ ∙ area_unmarked z a t s c.one m
          ∙ sym (area_unmarked z (merge_area z a u v) t s n₂ (same-mode ∙ m) ∙ area_rest z a u v c.two (into z s) (omega arith) (omega (arith, c.two.target)) (omega (arith, c.apart)))

  other_place : (i : ℕ) → z.chunks * z.chunks ≤ i → (i ≡ side z t → ⊥) → (i ≡ side z u → ⊥) → (i ≡ into z s → ⊥) → (i ≡ into z v → ⊥) → cell one_first i ≡ cell two_first i
  other_place i h m n p q =
      area_rest z (merge_area z a t s) u v n₁ i h n q ∙ area_rest z a t s c.one i h m p
      ∙ sym (area_rest z (merge_area z a u v) t s n₂ i h m p ∙ area_rest z a u v c.two i h n q)

  same_length : length one_first ≡ length two_first
  same_length =
      area_length z (merge_area z a t s) u v n₁ ∙ area_length z a t s c.one ∙ sym (area_length z (merge_area z a u v) t s n₂ ∙ area_length z a u v c.two)

module _ (z : Sizes) (a : List ℕ) (t s u v : ℕ) (c : CanSwap z a t s u v) where
  in_row : (x y : ℕ) → x < z.chunks → y < z.chunks → cell (one_first z a t s u v c) (x * z.chunks + y) ≡ cell (two_first z a t s u v c) (x * z.chunks + y)
  in_row x y b d = elim (ℕ_discrete x s) [
    | yes q ↦ rw q (source_row z a t s u v c y d)
    | no m ↦ elim (ℕ_discrete x v) [
      | yes q ↦ rw q (sym (source_row z a u v t s (turn_round c) y d))
      | no n ↦ elim (ℕ_discrete x t) [
        | yes q ↦ rw q (target_row z a t s u v c y d)
        | no p ↦ elim (ℕ_discrete x u) [ yes q ↦ rw q (sym (target_row z a u v t s (turn_round c) y d)) | no q ↦ other_row z a t s u v c x y b d p m q n ]
      ]
    ]
  ]

  beyond : (i : ℕ) → z.chunks * z.chunks ≤ i → cell (one_first z a t s u v c) i ≡ cell (two_first z a t s u v c) i
  beyond i h = elim (ℕ_discrete i (side z t)) [
    | yes q ↦ rw q (target-side z a t s u v c)
    | no m ↦ elim (ℕ_discrete i (side z u)) [
      | yes q ↦ rw q (sym (target-side z a u v t s (turn_round c)))
      | no n ↦ elim (ℕ_discrete i (into z s)) [
        | yes q ↦ rw q (source-into z a t s u v c)
        | no p ↦ elim (ℕ_discrete i (into z v)) [ yes q ↦ rw q (sym (source-into z a u v t s (turn_round c))) | no q ↦ other_place z a t s u v c i h m n p q ]
      ]
    ]
  ]

  -- the two merges leave the same area in either order
  pub area_swap : merge_area z (merge_area z a t s) u v ≡ merge_area z (merge_area z a u v) t s
  area_swap = ext_get_or 0 _ _ (same_length z a t s u v c) (λ i r. elim (dec_lt i (z.chunks * z.chunks)) [
    | yes b ↦
        let pos : 0 < z.chunks = omega (arith, c.one.target) in
        rw (← div-add-mod' i z.chunks) (in_row (i / z.chunks) (i % z.chunks) ((div-lt_iff_lt-mul pos).1 b) (mod-lt i pos))
    | no b ↦ beyond i (omega arith)
  ])
