-- What a merge leaves at each place of the area, and the graph that the area then holds. Assumes nothing.
use Prim.Native.Nat.{ℕ, ◌+◌, ◌*◌, ◌<◌, ◌≤◌}
use Rattle.std.proofs.Common.{arith, ap₂, ◌∙◌}
use Rattle.std.proofs.Math.Decide.{ℕ_discrete, dec_lt}
use Rattle.std.specs.Prelude.{◌≡◌, Bool, not, cond, ◌&&◌, ◌||◌, set, eqb}
use Rattle.std.proofs.Math.Path.{refl, sym, ap}
use Rattle.std.proofs.Math.Bool.{true, false}
use mathlib.Core.List.{List}
use Rattle.std.proofs.Math.ListN.{length, length-set}
use Rattle.std.proofs.Math.Seq.{get_or-set_same, get_or-set_other}
use borrow.Author.Tests.{lt-ltb, le-ltb}
use Rattle.graphs.specs.Count.{ind}
use Rattle.graphs.specs.Tab.{tab-at}
use Rattle.entry_set.specs.LaneLaws.{lanes-same}
use Rattle.entry_set.specs.SetLaws.{sets-room}
use Rattle.merge_state.specs.declared.Sizes.{Sizes}
use Rattle.merge_state.specs.State as state
use Rattle.merge_state.specs.Methods.{absorbed, merged}
use Rattle.merge_state.specs.Absorbed.{union, absorbed-source, absorbed-target, absorbed-other}
use Rattle.merge_area.specs.Layout.{cell, head, set_place, set_chunk, side, need, key, into, home, entry_chunk, entry_module}
use Rattle.merge_area.specs.Read.{depends_in, effects_in, mode_in, into_in, read}
use Rattle.merge_area.specs.Writes.{union_cell, merging, merged_rows, absorb_area, record_area, merge_area}
use Rattle.merge_laws.specs.Can.{CanMerge, CanMergeArea}
use Rattle.merge_laws.specs.Merging.{rows_apart, at_target, at_source, at_none, rows-kept, merged-length}
use Rattle.merge_reads.specs.Fields.{yes-ind, effects_put, needs_same, log_same, sets_same, home_same, keys-same, mode_same, into-same, into-put}

-- the dependencies that an area holds
pub depends-at : (z : Sizes) (a : List ℕ) (x y : ℕ) → x < z.chunks → y < z.chunks → depends_in z a x y ≡ state.yes (cell a (x * z.chunks + y))
unfolding depends_in
depends-at z a x y b c = rw (lt-ltb x z.chunks b, lt-ltb y z.chunks c)

pub depends-out : (z : Sizes) (a : List ℕ) (x y : ℕ) → (x < z.chunks → z.chunks ≤ y) → depends_in z a x y ≡ false
unfolding depends_in
depends-out z a x y h = elim (dec_lt x z.chunks) [
  | yes b ↦ rw (lt-ltb x z.chunks b, le-ltb y z.chunks (h b))
  | no b ↦ rw (le-ltb x z.chunks (omega arith))
]

module _ (z : Sizes) (a : List ℕ) (t s : ℕ) (can : CanMergeArea z a t s) where
  rows : CanMerge a z.chunks t s
  rows = record { cells = omega (arith, can.long); target = can.target; source = can.source; differ = can.differ }

  abbrev rowed : List ℕ
  rowed = absorb_area z a t s

  rowed-length : length rowed ≡ length a
  unfolding absorb_area
  rowed-length = rw (length-set, merged-length a z.chunks t s)

  rowed_mode : mode_in z rowed ≡ mode_in z a
  unfolding absorb_area
  rowed_mode = mode_same z a rowed (get_or-set_other (merged_rows a z.chunks t s) (side z t) (head z 5) _ 0 (omega arith) ∙ rows-kept rows (head z 5) (omega arith))

  pub area_length : length (merge_area z a t s) ≡ length a
  unfolding merge_area record_area
  area_length = go (mode_in z rowed)
    where
      go : (m : Bool) → length (cond m (set rowed (into z s) t) rowed) ≡ length a
      go true = rw length-set rowed-length
      go false = rowed-length

  -- but for the record of the merge
  unrecorded : (i : ℕ) → (i ≡ into z s → ⊥) → cell (merge_area z a t s) i ≡ cell rowed i
  unfolding merge_area record_area
  unrecorded i n = go (mode_in z rowed)
    where
      go : (m : Bool) → cell (cond m (set rowed (into z s) t) rowed) i ≡ cell rowed i
      go true = get_or-set_other rowed (into z s) i t 0 n
      go false = refl

  -- in the mode the merge is recorded, else nothing is
  pub area_into : mode_in z a ≡ true → cell (merge_area z a t s) (into z s) ≡ t
  unfolding merge_area record_area
  area_into m = rw (rowed_mode ∙ m) (get_or-set_same rowed (into z s) t 0 (omega (arith, rowed-length, can.long, can.source)))

  pub area_unmarked : mode_in z a ≡ false → cell (merge_area z a t s) (into z s) ≡ cell a (into z s)
  unfolding merge_area record_area absorb_area
  area_unmarked m = rw (rowed_mode ∙ m) (get_or-set_other (merged_rows a z.chunks t s) (side z t) (into z s) _ 0 (omega (arith, can.target)) ∙ rows-kept rows (into z s) (omega arith))

  area_row : (i : ℕ) → i < z.chunks * z.chunks → cell (merge_area z a t s) i ≡ merging a z.chunks t s z.chunks i
  unfolding absorb_area merged_rows
  area_row i b = unrecorded i (omega arith) ∙ get_or-set_other (merged_rows a z.chunks t s) (side z t) i _ 0 (omega arith) ∙ tab-at (merging a z.chunks t s z.chunks) (length a) i (omega (arith, can.long))

  -- the target's row becomes the union without the target
  pub area_target : (y : ℕ) → y < z.chunks → cell (merge_area z a t s) (t * z.chunks + y) ≡ union_cell (cell a (t * z.chunks + y)) (cell a (s * z.chunks + y)) y t
  area_target y b = area_row (t * z.chunks + y) (omega (arith, sets-room {i = t} {n = z.chunks} z.chunks can.target)) ∙ at_target rows y z.chunks b (omega arith)

  -- the source's row empties
  pub area_source : (y : ℕ) → y < z.chunks → cell (merge_area z a t s) (s * z.chunks + y) ≡ 0
  area_source y b = area_row (s * z.chunks + y) (omega (arith, sets-room {i = s} {n = z.chunks} z.chunks can.source)) ∙ at_source rows y z.chunks b (omega arith)

  pub area_other : (x y : ℕ) → x < z.chunks → y < z.chunks → (x ≡ t → ⊥) → (x ≡ s → ⊥) → cell (merge_area z a t s) (x * z.chunks + y) ≡ cell a (x * z.chunks + y)
  area_other x y xc b n m =
      area_row (x * z.chunks + y) (omega (arith, sets-room {i = x} {n = z.chunks} z.chunks xc))
      ∙ at_none rows z.chunks (x * z.chunks + y) (rows_apart z.chunks t x z.chunks (x * z.chunks + y) (λ i. n (sym i)) (omega arith) (omega arith) (omega arith))
      (rows_apart z.chunks s x z.chunks (x * z.chunks + y) (λ i. m (sym i)) (omega arith) (omega arith) (omega arith))

  -- side effects are or-ed
  pub area_side : cell (merge_area z a t s) (side z t) ≡ ind (state.yes (cell a (side z t)) || state.yes (cell a (side z s)))
  unfolding absorb_area
  area_side = unrecorded (side z t) (omega (arith, can.target)) ∙ get_or-set_same (merged_rows a z.chunks t s) (side z t) _ 0 (omega (arith, merged-length a z.chunks t s, can.long, can.target))

  -- beyond the rows nothing else changes
  pub area_rest : (i : ℕ) → z.chunks * z.chunks ≤ i → (i ≡ side z t → ⊥) → (i ≡ into z s → ⊥) → cell (merge_area z a t s) i ≡ cell a i
  unfolding absorb_area
  area_rest i h n r = unrecorded i r ∙ get_or-set_other (merged_rows a z.chunks t s) (side z t) i _ 0 n ∙ rows-kept rows i h

  depends-merged : (x y : ℕ) → depends_in z (merge_area z a t s) x y ≡ absorbed (depends_in z a) t s x y
  unfolding union_cell
  depends-merged x y = elim (ℕ_discrete x s) [
    | yes q ↦ rw q (from-source ∙ sym (ap (λ r. r y) (absorbed-source (depends_in z a) t s)))
    | no q ↦ elim (ℕ_discrete x t) [
      | yes p ↦ rw p (from-target ∙ sym (ap (λ r. r y) (absorbed-target (depends_in z a) t s can.differ)))
      | no p ↦ from-other q p ∙ sym (ap (λ r. r y) (absorbed-other (depends_in z a) t s x p q))
    ]
  ]
    where
      from-source : depends_in z (merge_area z a t s) s y ≡ false
      from-source = elim (dec_lt y z.chunks) [
        | yes b ↦ depends-at z (merge_area z a t s) s y can.source b ∙ ap state.yes (area_source y b)
        | no b ↦ depends-out z (merge_area z a t s) s y (λ c. omega arith)
      ]

      from-target : depends_in z (merge_area z a t s) t y ≡ union (depends_in z a t) (depends_in z a s) t y
      from-target = elim (dec_lt y z.chunks) [
        | yes b ↦
            depends-at z (merge_area z a t s) t y can.target b ∙ ap state.yes (area_target y b) ∙ yes-ind _
            ∙ sym (ap₂ (λ u v. (u || v) && not (eqb y t)) (depends-at z a t y can.target b) (depends-at z a s y can.source b))
        | no b ↦
            depends-out z (merge_area z a t s) t y (λ c. omega arith)
            ∙ sym (ap₂ (λ u v. (u || v) && not (eqb y t)) (depends-out z a t y (λ c. omega arith)) (depends-out z a s y (λ c. omega arith)))
      ]

      from-other : (x ≡ s → ⊥) → (x ≡ t → ⊥) → depends_in z (merge_area z a t s) x y ≡ depends_in z a x y
      from-other q p = elim (dec_lt x z.chunks) [
        | yes b ↦ elim (dec_lt y z.chunks) [
          | yes c ↦ depends-at z (merge_area z a t s) x y b c ∙ ap state.yes (area_other x y b c p q) ∙ sym (depends-at z a x y b c)
          | no c ↦ depends-out z (merge_area z a t s) x y (λ d. omega arith) ∙ sym (depends-out z a x y (λ d. omega arith))
        ]
        | no b ↦ depends-out z (merge_area z a t s) x y (λ d. omega arith) ∙ sym (depends-out z a x y (λ d. omega arith))
      ]

  -- the merged graph
  into-merged : into_in z (merge_area z a t s) ≡ cond (mode_in z a) (state.put (into_in z a) s t) (into_in z a)
  into-merged = go (mode_in z a) refl
    where
      b : List ℕ
      b = merge_area z a t s

      same-mode : cell b (head z 5) ≡ cell a (head z 5)
      same-mode = area_rest (head z 5) (omega arith) (omega arith) (omega arith)

      far : (x : ℕ) → x < z.chunks → (x ≡ s → ⊥) → cell b (into z x) ≡ cell a (into z x)
      far x l n = area_rest (into z x) (omega arith) (omega (arith, can.target)) (omega arith)

      go : (m : Bool) → mode_in z a ≡ m → into_in z b ≡ cond m (state.put (into_in z a) s t) (into_in z a)
      go true m = into-put z a b s t m same-mode can.source (area_into m) far
      go false m = into-same z a b same-mode (λ x l. elim (ℕ_discrete x s) [ yes q ↦ rw q (area_unmarked m) | no q ↦ far x l q ])

  pub read-merge : cell a (head z 3) ≤ 2 * z.chunks → read z (merge_area z a t s) ≡ merged (read z a) t s
  unfolding merged effects_in
  read-merge few = λ i. record {
    initial = area_rest (head z 0) (omega arith) (omega arith) (omega (arith, can.source)) i;
    made = area_rest (head z 1) (omega arith) (omega arith) (omega (arith, can.source)) i;
    created = area_rest (head z 2) (omega arith) (omega arith) (omega (arith, can.source)) i;
    depends = λ x y. depends-merged x y i;
    effects = effects_put z a b t (effects_in z a t || effects_in z a s) can.target
        (rw (lt-ltb t z.chunks can.target, lt-ltb s z.chunks can.source) area_side) (λ x l n. area_rest (side z x) (omega arith) (omega arith) (omega (arith, can.source))) i;
    needs = needs_same z a b (λ x l. area_rest (need z x) (omega arith) (omega (arith, can.target)) (omega (arith, can.source))) i;
    log = log_same z a b (area_rest (head z 4) (omega arith) (omega arith) (omega (arith, can.source)))
        (λ k l. (area_rest (entry_chunk z k) (omega arith) (omega (arith, can.target)) (omega (arith, can.source)), area_rest (entry_module z k) (omega arith) (omega (arith, can.target)) (omega (arith, can.source)))) i;
    sets = sets_same z a b (area_rest (head z 3) (omega arith) (omega arith) (omega (arith, can.source)))
        (λ k l. (lanes-same b a (set_place z k) 1 (λ j h. area_rest (set_place z k + j * 1) (omega arith) (omega arith) (omega (arith, can.source))), area_rest (set_chunk z k) (omega arith) (omega arith) (omega (arith, can.source)))) i;
    home = home_same z a b (λ m l. area_rest (home z m) (omega arith) (omega (arith, can.target)) (omega (arith, can.source))) i;
    mode = mode_same z a b (area_rest (head z 5) (omega arith) (omega arith) (omega arith)) i;
    into = into-merged i;
    keys = keys-same z a b (λ k l. area_rest (key z k) (omega arith) (omega (arith, can.target)) (omega (arith, can.source))) i;
  }
    where
      b : List ℕ
      b = merge_area z a t s
