-- An area that holds a graph in order isn't refused by row 21. Assumes nothing.
use Rattle.std.specs.Prelude.{ℕ, ◌+◌, ◌-◌, ◌*◌, ◌/◌, ◌%◌, ◌^◌, ◌<◌, ◌≤◌, ◌≡◌, ◌⊎◌, Bool, ◌&&◌, ◌||◌, List, get_or, leb, ltb}
use native.Mathlib.Omega.{arith}
use Rattle.std.proofs.Common.{add-mul, mul-le-mul, div-add-mod', div-lt_iff_lt-mul, mod-lt, sym, ◌∙◌, inr, ⊎_elim, eq-eqb, ne_eqb, lt-ltb, le-ltb}
use Rattle.std.proofs.Math.Decide.{ℕ_discrete, dec_lt}
use Rattle.std.proofs.Math.Path.{refl, ap}
use Rattle.std.proofs.Math.Logic.{inl}
use Rattle.std.proofs.Math.Bool.{true, false, not, and-false}
use Rattle.std.proofs.Math.Dec.{eqb}
use Rattle.std.proofs.lemmas.Bool.{lt-leb}
use Rattle.graphs.specs.Bools.{or_false, and_both, fails}
use Rattle.graphs.specs.Count.{count-all_no}
use Rattle.graphs.specs.Lists.{some_below, below, some_take}
use Rattle.graphs.specs.Walk.{cyclic}
use Rattle.graphs.specs.Walks.{sources-below, acyclic_walk}
use Rattle.entry_set.specs.Lanes.{lanes}
use Rattle.merge_state.specs.declared.Sizes.{Sizes}
use Rattle.merge_state.specs.State.{None, misfit}
use Rattle.merge_state.specs.Loading.{came_before, twice}
use Rattle.merge_state.specs.Merges.{merged_into}
use Rattle.merge_state.specs.Ends.{step-take}
use Rattle.merge_state.specs.Ordered.{Ordered, never}
use Rattle.merge_area.specs.Layout.{cell, head, set_place, set_chunk, need, key, into, home, entry_chunk, entry_module}
use Rattle.merge_area.specs.Read.{entry, named_set, depends_in, needs_in, home_in, keys_in, mode_in, into_in, read}
use Rattle.merge_state.specs.Pairs.{pairs-length, pairs-at}
use Rattle.merge_area.specs.Consistent.{faults, head_fault, row_fault, flags_fault, index_faults, lane_faults, merges_fault, out_of_range, sets_fault, inconsistent}
use Rattle.merge_area.specs.Merged.{into-at}
use Rattle.merge_reads.specs.Fields.{depends_on}

-- a number below the top fits, and so does None where it is free
below-fits : (top v : ℕ) (free : Bool) → v < top → misfit top free v ≡ false
unfolding misfit
below-fits top v free h = rw (lt-leb top v h)

free-fits : (top v : ℕ) {P : Type 0} → (v ≡ None) ⊎ (P × (v < top)) → misfit top true v ≡ false
unfolding misfit
free-fits top v q = ⊎_elim (λ n. rw (eq-eqb v None n) (and-false (leb top v))) (λ b. rw (lt-leb top v b.1)) q

faultless : (a : List ℕ) (at n top : ℕ) (free : Bool) → ((i : ℕ) → i < n → misfit top free (get_or a (at + i) 0) ≡ false) → faults a at n top free ≡ 0
unfolding faults
faultless a at n top free h = count-all_no (λ j. misfit top free (get_or a (at + j) 0)) n h

none_below : (p : ℕ → Bool) (n : ℕ) → ((x : ℕ) → x < n → p x ≡ false) → some_below p n ≡ false
none_below p n h = fails _ (λ q. let r = some_take p n q in never _ r.2 (h r.0 r.1))

-- flags that are clear on the diagonal, and in the rows and columns from n on
clear_flags : (a : List ℕ) (c n : ℕ) → n ≤ c → ((x y : ℕ) → x < c → y < c → (x ≡ y) ⊎ ((n ≤ x) ⊎ (n ≤ y)) → cell a (x * c + y) ≡ 0) → flags_fault a c n ≡ false
unfolding flags_fault row_fault
clear_flags a c n few h =
    or_false _ _ (none_below (row_fault a c n) n rows) (le-ltb 0 (faults a (n * c) ((c - n) * c) 1 false) (omega (arith, faultless a (n * c) ((c - n) * c) 1 false rest)))
  where
    zeroed : (i : ℕ) → cell a i ≡ 0 → misfit 1 false (cell a i) ≡ false
    zeroed i e = below-fits 1 (cell a i) false (omega arith)

    rows : (x : ℕ) → x < n → ltb 0 (faults a (x * c + x) 1 1 false + faults a (x * c + n) (c - n) 1 false) ≡ false
    rows x b =
        le-ltb 0 (faults a (x * c + x) 1 1 false + faults a (x * c + n) (c - n) 1 false) (omega (
          arith,
          faultless a (x * c + x) 1 1 false (λ i j. zeroed (x * c + x + i) (let e : x * c + x + i ≡ x * c + x = omega arith in rw e (h x x (omega arith) (omega arith) (inl refl)))),
          faultless a (x * c + n) (c - n) 1 false
              (λ i j. zeroed (x * c + n + i) (let e : x * c + n + i ≡ x * c + (n + i) = omega arith in rw e (h x (n + i) (omega arith) (omega arith) (inr (inr (omega arith)))))),
        ))

    rest : (i : ℕ) → i < (c - n) * c → misfit 1 false (cell a (n * c + i)) ≡ false
    rest i b = elim (dec_lt 0 c) [
      | yes pos ↦
          let x = n + i / c in
          let q : i / c < c - n = (div-lt_iff_lt-mul pos).1 b in
          let e : n * c + i ≡ x * c + i % c = omega (arith, add-mul n (i / c) c, div-add-mod' i c) in
          zeroed (n * c + i) (rw e (h x (i % c) (omega arith) (mod-lt i pos) (inr (inl (omega arith)))))
      | no none ↦ absurd (omega (arith, mul-le-mul {n₁ = c - n} {m₁ = c} {n₂ = 0} {m₂ = 0} (omega arith) (omega arith)))
    ]

module _ (z : Sizes) (a : List ℕ) (o : Ordered z (read z a)) where
  abbrev made : ℕ
  made = cell a (head z 1)

  abbrev sets : ℕ
  sets = cell a (head z 3)

  abbrev used : ℕ
  used = cell a (head z 4)

  clear : (x y : ℕ) → x < z.chunks → y < z.chunks → (x ≡ y) ⊎ ((made ≤ x) ⊎ (made ≤ y)) → cell a (x * z.chunks + y) ≡ 0
  clear x y b c k = elim (ℕ_discrete (cell a (x * z.chunks + y)) 0) [
    | yes q ↦ q
    | no q ↦ absurd (clash (depends_on z a x y b c q))
  ]
    where
      clash : depends_in z a x y ≡ true → ⊥
      clash h =
          ⊎_elim (λ q. never _ h (rw q (o.sound.self y))) (λ m. ⊎_elim (λ b. omega (arith, o.sound.from x y h)) (λ b. omega (arith, o.sound.to x y h)) m) k

  at_set : (i : ℕ) → i < sets → (lanes a (set_place z i) 1 < 2 ^ z.bits) × (cell a (set_chunk z i) < made)
  at_set i b = rw (pairs-at (named_set z a) sets i b) at (o.named i (omega (arith, pairs-length (named_set z a) sets)))

  at_entry : (i : ℕ) → i < used → (cell a (entry_chunk z i) < made) × (cell a (entry_module z i) < z.modules)
  at_entry i b = rw (pairs-at (entry z a) used i b) at (o.logged i (omega (arith, pairs-length (entry z a) used)))

  at_key : (k : ℕ) → k < z.chunks → misfit made true (cell a (key z k)) ≡ false
  unfolding keys_in
  at_key k b = free-fits made (cell a (key z k)) (rw (lt-ltb k z.chunks b) at (o.keyed k))

  at_home : (m : ℕ) → m < z.modules → misfit made true (cell a (home z m)) ≡ false
  unfolding home_in
  at_home m b = free-fits made (cell a (home z m)) (rw (lt-ltb m z.modules b) at (o.homes m))

  at-need : (x : ℕ) → x < cell a (head z 0) → misfit 1 false (cell a (need z x)) ≡ false
  unfolding needs_in
  at-need x b = elim (ℕ_discrete (cell a (need z x)) 0) [
    | yes q ↦ below-fits 1 (cell a (need z x)) false (omega arith)
    | no q ↦ absurd (never _ (and_both _ _ (lt-ltb x z.chunks (omega (arith, o.begun, o.fits))) (ap not (ne_eqb _ 0 q))) (o.initial_needs_none x b))
  ]

  apart : (i j : ℕ) → i < j → j < sets → eqb (lanes a (set_place z i) 1) (lanes a (set_place z j) 1) ≡ false
  apart i j b c =
      ne_eqb _ _ (λ (q : lanes a (set_place z i) 1 ≡ lanes a (set_place z j) 1). o.distinct i j b (omega (arith, pairs-length (named_set z a) sets)) (rw (pairs-at (named_set z a) sets i (omega arith), pairs-at (named_set z a) sets j c) q))

  -- a part that starts at b + 0
  part : (b n top : ℕ) (free : Bool) → ((i : ℕ) → i < n → misfit top free (cell a (b + i)) ≡ false) → faults a (b + 0) n top free ≡ 0
  part b n top free h = faultless a (b + 0) n top free (λ i c. let e : b + 0 + i ≡ b + i = omega arith in rw e (h i c))

  in_range : index_faults z a ≤ 0
  unfolding index_faults
  in_range = omega (
    arith,
    part (z.chunks * z.chunks + 32 + 16 * z.chunks) sets made false (λ i b. below-fits made _ false (at_set i b).1),
    part (z.chunks * z.chunks + 32 + 20 * z.chunks) z.chunks made true at_key,
    part (z.chunks * z.chunks + 32 + 32 * z.chunks) z.modules made true at_home,
    part (z.chunks * z.chunks + 32 + 32 * z.chunks + 32 * z.modules) used made false (λ i b. below-fits made _ false (at_entry i b).0),
    part (z.chunks * z.chunks + 32 + 32 * z.chunks + 32 * z.modules + z.entries) used z.modules false (λ i b. below-fits z.modules _ false (at_entry i b).1),
    part (z.chunks * z.chunks + 32 + 19 * z.chunks) (cell a (head z 0)) 1 false at-need,
  )

  -- a merge of the lane
  at_into : mode_in z a ≡ true → (x : ℕ) → x < z.chunks → (cell a (into z x) ≡ None) ⊎ ((x < made) × (cell a (into z x) < made))
  at_into m x b =
      let e = into-at z a x m b in
      elim (ℕ_discrete (cell a (into z x)) None) [ yes q ↦ inl q | no q ↦ let r = o.merges.range x (λ k. q (sym e ∙ k)) in inr (r.0, omega (arith, r.1, e)) ]

  lane_right : mode_in z a ≡ true → lane_faults z a ≤ 0
  unfolding lane_faults
  lane_right m = omega (
    arith,
    part (z.chunks * z.chunks + 32 + 21 * z.chunks) made made true (λ x b. free-fits made (cell a (into z x)) (at_into m x (omega (arith, o.fits)))),
    faultless a (into z made) (z.chunks - made) 0 true (λ i b.
        let e : into z made + i ≡ into z (made + i) = omega arith in
        rw e (free-fits 0 (cell a (into z (made + i))) {P = made < made} (⊎_elim (λ q. inl q) (λ q. absurd (omega (arith, q.0))) (at_into m (made + i) (omega arith))))),
  )

  merges_right : merges_fault z a ≡ false
  unfolding merges_fault
  merges_right = go (mode_in z a) refl
    where
      go : (m : Bool) → mode_in z a ≡ m → (m && (ltb 0 (lane_faults z a) || cyclic (merged_into (into_in z a)) (below made))) ≡ false
      go true m =
          or_false _ _ (le-ltb 0 (lane_faults z a) (lane_right m))
          ((acyclic_walk (merged_into (into_in z a)) (below made) (sources-below (λ x y q. (o.merges.range x (step-take (into_in z a) x y q).0).0))).1 o.merges.no_ring)
      go false m = refl

  -- row 21 doesn't fit
  pub ordered_consistent : inconsistent z a ≡ false
  unfolding inconsistent head_fault sets_fault out_of_range twice came_before
  ordered_consistent =
      or_false _ _
      (or_false _ _ (le-ltb _ _ o.begun) (or_false _ _ (le-ltb _ _ o.fits)
      (or_false _ _ (le-ltb (z.chunks + made) sets (omega (arith, pairs-length (named_set z a) sets, o.room))) (le-ltb z.entries used (omega (arith, pairs-length (entry z a) used, o.used))))))
      (or_false _ _ (clear_flags a z.chunks made o.fits clear)
      (or_false _ _ (le-ltb 0 (index_faults z a) in_range)
      (or_false _ _ merges_right
      (or_false _ _ (none_below (out_of_range z a) sets (λ i b. ap not (lt-ltb _ _ (at_set i b).0)))
      (none_below (came_before (λ i. lanes a (set_place z i) 1)) sets (λ j c. none_below (λ i. eqb (lanes a (set_place z i) 1) (lanes a (set_place z j) 1)) j (λ i b. apart i j b c)))))))
