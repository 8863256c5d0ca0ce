-- An area that row 21 doesn't refuse holds a graph in order. Assumes nothing.
use Rattle.std.specs.Prelude.{ℕ, ◌+◌, ◌-◌, ◌*◌, ◌^◌, ◌<◌, ◌≤◌, ◌≡◌, ◌⊎◌, Bool, cond, ◌&&◌, ◌||◌}
use Rattle.std.proofs.Common.{arith, sym, ◌∙◌, inl, inr, true≢false}
use Rattle.std.proofs.Math.Decide.{ℕ_discrete, dec_lt}
use Rattle.std.proofs.Math.Path.{refl, ap, fun_ext}
use Rattle.std.proofs.Math.Bool.{true, false}
use mathlib.Core.List.{List}
use Rattle.std.proofs.Math.Dec.{eqb, ltb}
use borrow.Author.Tests.{eqb-false, ltb-true, ltb-false, lt-ltb, le-ltb, not-true, not-false}
use Rattle.graphs.specs.Bools.{alike, fails, and_left, and_right, and_both, or_false_left, or_false_right}
use Rattle.graphs.specs.Lists.{some_below, below, some_none}
use Rattle.graphs.specs.Walk.{Walk, one, more, cyclic}
use Rattle.graphs.specs.Walks.{sources-below, acyclic_walk}
use Rattle.graph_walks.specs.Closed.{flag_edge}
use Rattle.graph_walks.specs.ClosedLaws.{flag_from, flag-to, flag_is}
use Rattle.entry_set.specs.Lanes.{lanes}
use Rattle.entry_set.specs.SetLaws.{sets-room}
use Rattle.merge_state.specs.declared.Sizes.{Sizes}
use Rattle.merge_state.specs.State.{None, at}
use Rattle.merge_state.specs.Loading.{came_before, twice}
use Rattle.merge_state.specs.Warning.{Sound}
use Rattle.merge_state.specs.Merges.{merged_into}
use Rattle.merge_state.specs.Ends.{Merges, step-take}
use Rattle.merge_state.specs.Ordered.{Ordered}
use Rattle.merge_area.specs.FlagRows.{rows-rest}
use Rattle.merge_area.specs.Layout.{cell, head, set_place, set_chunk, need, key, home, entry_chunk, entry_module}
use Rattle.merge_area.specs.Read.{read, named_set, entry, depends_in, needs_in, home_in, keys_in, mode_in, into_in}
use Rattle.merge_state.specs.Pairs.{pairs-length, pairs-at}
use Rattle.merge_area.specs.Consistent.{faults, row_fault, flags_fault, index_faults, lane_faults, merges_fault, out_of_range, sets_fault, inconsistent, head_fault}
use Rattle.merge_area.specs.Within.{Headed}
use Rattle.merge_area.specs.Faults.{no_fault, fits-free, part-below}
use Rattle.merge_area.specs.Merged.{into-off, lane_range, CanFollow}
use Rattle.merge_laws.specs.Rows.{Stood}

-- the flags of an area that row 21 doesn't refuse
pub record Clean (a : List ℕ) (c n : ℕ) : Type 0 where
  pub self : (x : ℕ) → x < n → cell a (x * c + x) ≡ 0
  pub right : (x y : ℕ) → x < n → n ≤ y → y < c → cell a (x * c + y) ≡ 0
  pub under : (i : ℕ) → n * c ≤ i → i < c * c → cell a i ≡ 0

pub clean : (a : List ℕ) (c n : ℕ) → n ≤ c → flags_fault a c n ≡ false → Clean a c n
unfolding flags_fault row_fault
clean a c n fits h =
    record {
      self = λ x b. let r = row x b in
          omega (arith, part-below a (x * c + x) 1 1 (omega (arith, r)) 0 (omega arith), ap (cell a) {x = x * c + x + 0} {y = x * c + x} (omega arith));
      right = λ x y b p q. let r = row x b in
          omega (arith, part-below a (x * c + n) (c - n) 1 (omega (arith, r)) (y - n) (omega arith), ap (cell a) {x = x * c + n + (y - n)} {y = x * c + y} (omega arith));
      under = λ i p q.
          omega (arith, part-below a (n * c) ((c - n) * c) 1 rest (i - n * c) (omega (arith, rows-rest c n fits)), ap (cell a) {x = n * c + (i - n * c)} {y = i} (omega arith));
    }
  where
    row : (x : ℕ) → x < n → faults a (x * c + x) 1 1 false + faults a (x * c + n) (c - n) 1 false ≤ 0
    row x b = ltb-false 0 _ (some_none (λ x. ltb 0 (faults a (x * c + x) 1 1 false + faults a (x * c + n) (c - n) 1 false)) n (or_false_left (some_below (λ x. ltb 0 (faults a (x * c + x) 1 1 false + faults a (x * c + n) (c - n) 1 false)) n) _ h) x b)

    rest : faults a (n * c) ((c - n) * c) 1 false ≡ 0
    rest = omega (arith, ltb-false 0 (faults a (n * c) ((c - n) * c) 1 false) (or_false_right (some_below (λ x. ltb 0 (faults a (x * c + x) 1 1 false + faults a (x * c + n) (c - n) 1 false)) n) _ h))

-- a dependency's two chunks, and its flag
pub depends-parts : (z : Sizes) (a : List ℕ) (x y : ℕ) → depends_in z a x y ≡ true → (x < z.chunks) × (y < z.chunks) × (cell a (x * z.chunks + y) ≡ 0 → ⊥)
unfolding depends_in
depends-parts z a x y h =
    let t = and_left (ltb x z.chunks && ltb y z.chunks) _ h in
    (ltb-true _ _ (and_left (ltb x z.chunks) _ t), ltb-true _ _ (and_right (ltb x z.chunks) _ t), eqb-false _ _ (not-true _ (and_right (ltb x z.chunks && ltb y z.chunks) _ h)))

-- the dependencies that such flags give
module _ (z : Sizes) (a : List ℕ) (n : ℕ) (fits : n ≤ z.chunks) (k : Clean a z.chunks n) where
  depends_from : (x y : ℕ) → depends_in z a x y ≡ true → x < n
  depends_from x y h = elim (dec_lt x n) [
    | yes b ↦ b
    | no b ↦
        let p = depends-parts z a x y h in
        absurd (p.2 (k.under (x * z.chunks + y) (omega (arith, native.Mathlib.Nat.mul-le-mul_right {m = n} {n = x} z.chunks (omega arith))) (omega (arith, sets-room {i = x} {n = z.chunks} z.chunks p.0, p.1))))
  ]

  depends-to : (x y : ℕ) → depends_in z a x y ≡ true → y < n
  depends-to x y h = elim (dec_lt y n) [
    | yes b ↦ b
    | no b ↦ let p = depends-parts z a x y h in absurd (p.2 (k.right x y (depends_from x y h) (omega arith) p.1))
  ]

  depends_self : (x : ℕ) → depends_in z a x x ≡ false
  depends_self x = fails _ (λ h. (depends-parts z a x x h).2 (k.self x (depends_from x x h)))

  -- the walks' reading of the flags
  pub depends-flag : depends_in z a ≡ flag_edge a z.chunks n
  unfolding depends_in
  depends-flag = fun_ext (λ x. fun_ext (λ y. alike _ _ (there x y) (back x y)))
    where
      there : (x y : ℕ) → depends_in z a x y ≡ true → flag_edge a z.chunks n x y ≡ true
      there x y h = flag_is a z.chunks n x y (depends_from x y h) (depends-to x y h) ∙ and_right (ltb x z.chunks && ltb y z.chunks) _ h

      back : (x y : ℕ) → flag_edge a z.chunks n x y ≡ true → depends_in z a x y ≡ true
      back x y h =
          let xn = flag_from a z.chunks n x y h in
          let yn = flag-to a z.chunks n x y h in
          and_both _ _ (and_both _ _ (lt-ltb x z.chunks (omega arith)) (lt-ltb y z.chunks (omega arith))) (sym (flag_is a z.chunks n x y xn yn) ∙ h)

  depends_sound : (g : ℕ) → g ≡ n → Sound (record { initial = cell a (head z 0); made = g; created = cell a (head z 2); depends = depends_in z a; effects = λ x. false; needs = λ x. false; log = mathlib.Core.List.[]; sets = mathlib.Core.List.[]; home = λ m. 0; keys = λ m. 0; mode = false; into = λ m. 0 })
  depends_sound g e = record { self = depends_self; from = λ x y h. omega (arith, depends_from x y h); to = λ x y h. omega (arith, depends-to x y h) }

-- the parts of `inconsistent`
module _ (z : Sizes) (a : List ℕ) (s : Stood z a) where
  abbrev H : Headed z a
  H = s.headed

  after-head : (flags_fault a z.chunks (cell a (head z 1)) || (ltb 0 (index_faults z a) || (merges_fault z a || sets_fault z a (cell a (head z 3))))) ≡ false
  unfolding inconsistent
  after-head = or_false_right (head_fault z a) _ s.consistent

  pub flags_clean : Clean a z.chunks (cell a (head z 1))
  flags_clean = clean a z.chunks (cell a (head z 1)) H.fits (or_false_left (flags_fault a z.chunks (cell a (head z 1))) _ after-head)

  after-flags : (ltb 0 (index_faults z a) || (merges_fault z a || sets_fault z a (cell a (head z 3)))) ≡ false
  after-flags = or_false_right (flags_fault a z.chunks (cell a (head z 1))) _ after-head

  none : index_faults z a ≤ 0
  none = ltb-false 0 _ (or_false_left (ltb 0 (index_faults z a)) _ after-flags)

  after-index : (merges_fault z a || sets_fault z a (cell a (head z 3))) ≡ false
  after-index = or_false_right (ltb 0 (index_faults z a)) _ after-flags

  after-merges : sets_fault z a (cell a (head z 3)) ≡ false
  after-merges = or_false_right (merges_fault z a) _ after-index

  pub merges_right : Merges (mode_in z a) (into_in z a) (cell a (head z 1))
  unfolding merges_fault
  merges_right = go (mode_in z a) refl (or_false_left (merges_fault z a) _ after-index)
    where
      go : (m : Bool) → mode_in z a ≡ m → (m && (ltb 0 (lane_faults z a) || cyclic (merged_into (into_in z a)) (below (cell a (head z 1))))) ≡ false → Merges m (into_in z a) (cell a (head z 1))
      go true e h =
          let range = lane_range z a e H.fits (omega (arith, ltb-false 0 (lane_faults z a) (or_false_left (ltb 0 (lane_faults z a)) _ h))) in
          record {
            range = range;
            no_ring = (acyclic_walk (merged_into (into_in z a)) (below (cell a (head z 1))) (sources-below (λ x y q. (range x (step-take (into_in z a) x y q).0).0))).0 (or_false_right (ltb 0 (lane_faults z a)) _ h);
            off = λ q. absurd (true≢false q);
          }
      go false e h = record { range = λ x q. absurd (q (into-off z a e x)); no_ring = λ x w. stuck e w; off = λ q x. into-off z a e x }
        where
          stuck : mode_in z a ≡ false → {x y : ℕ} → Walk (merged_into (into_in z a)) x y → ⊥
          stuck e (one {x} {y} q) = (step-take (into_in z a) x y q).0 (into-off z a e x)
          stuck e (more {x} {y} q w) = (step-take (into_in z a) x y q).0 (into-off z a e x)

  shifted : (at i : ℕ) → cell a (at + 0 + i) ≡ cell a (at + i)
  shifted at i = ap (cell a) (omega arith)

  pub set_chunk_in : (i : ℕ) → i < cell a (head z 3) → cell a (set_chunk z i) < cell a (head z 1)
  unfolding index_faults
  set_chunk_in i h = omega (arith, part-below a (set_chunk z 0) (cell a (head z 3)) (cell a (head z 1)) (omega (arith, none)) i h, shifted (z.chunks * z.chunks + 32 + 16 * z.chunks) i)

  pub key_in : (i : ℕ) → i < z.chunks → (cell a (key z i) ≡ None → ⊥) → cell a (key z i) < cell a (head z 1)
  unfolding index_faults
  key_in i h n =
      let e = shifted (z.chunks * z.chunks + 32 + 20 * z.chunks) i in
      omega (arith, fits-free (cell a (head z 1)) _ (no_fault a (key z 0) z.chunks (cell a (head z 1)) true (omega (arith, none)) i h) (λ q. n (sym e ∙ q)), e)

  pub home_in_range : (i : ℕ) → i < z.modules → (cell a (home z i) ≡ None → ⊥) → cell a (home z i) < cell a (head z 1)
  unfolding index_faults
  home_in_range i h n =
      let e = shifted (z.chunks * z.chunks + 32 + 32 * z.chunks) i in
      omega (arith, fits-free (cell a (head z 1)) _ (no_fault a (home z 0) z.modules (cell a (head z 1)) true (omega (arith, none)) i h) (λ q. n (sym e ∙ q)), e)

  pub entry_chunk_in : (i : ℕ) → i < cell a (head z 4) → cell a (entry_chunk z i) < cell a (head z 1)
  unfolding index_faults
  entry_chunk_in i h =
      omega (arith, part-below a (entry_chunk z 0) (cell a (head z 4)) (cell a (head z 1)) (omega (arith, none)) i h, shifted (z.chunks * z.chunks + 32 + 32 * z.chunks + 32 * z.modules) i)

  pub entry_module_in : (i : ℕ) → i < cell a (head z 4) → cell a (entry_module z i) < z.modules
  unfolding index_faults
  entry_module_in i h =
      omega (arith, part-below a (entry_module z 0) (cell a (head z 4)) z.modules (omega (arith, none)) i h, shifted (z.chunks * z.chunks + 32 + 32 * z.chunks + 32 * z.modules + z.entries) i)

  need-none : (i : ℕ) → i < cell a (head z 0) → cell a (need z i) ≡ 0
  unfolding index_faults
  need-none i h = omega (arith, part-below a (need z 0) (cell a (head z 0)) 1 (omega (arith, none)) i h, shifted (z.chunks * z.chunks + 32 + 19 * z.chunks) i)

  set_in : (i : ℕ) → i < cell a (head z 3) → lanes a (set_place z i) 1 < 2 ^ z.bits
  unfolding sets_fault out_of_range
  set_in i h = ltb-true _ _ (not-false _ (some_none (out_of_range z a) (cell a (head z 3)) (or_false_left (some_below (out_of_range z a) (cell a (head z 3))) _ after-merges) i h))

  set_apart : (i j : ℕ) → i < j → j < cell a (head z 3) → lanes a (set_place z i) 1 ≡ lanes a (set_place z j) 1 → ⊥
  unfolding sets_fault twice came_before
  set_apart i j l h =
      eqb-false _ _ (some_none (λ i. eqb (lanes a (set_place z i) 1) (lanes a (set_place z j) 1)) j
      (some_none (came_before (λ i. lanes a (set_place z i) 1)) (cell a (head z 3)) (or_false_right (some_below (out_of_range z a) (cell a (head z 3))) _ after-merges) j h) i l)

  ranged : {n top : ℕ} (f : ℕ → ℕ) → ((k : ℕ) → k < n → (f k ≡ None → ⊥) → f k < top) → (k : ℕ) → (cond (ltb k n) (f k) None ≡ None) ⊎ ((k < n) × (cond (ltb k n) (f k) None < top))
  ranged {n} {top} f h k = elim (dec_lt k n) [
    | yes b ↦ rw (lt-ltb k n b) (elim (ℕ_discrete (f k) None) [ yes q ↦ inl q | no q ↦ inr (b, h k b q) ])
    | no b ↦ rw (le-ltb k n (omega arith)) (inl refl)
  ]

  pub ordered : Ordered z (read z a)
  unfolding home_in keys_in needs_in
  ordered =
      record {
        small = H.within.chunks;
        begun = H.begun;
        fits = H.fits;
        sound = let d = depends_sound z a (cell a (head z 1)) H.fits flags_clean (cell a (head z 1)) refl in record { self = d.self; from = d.from; to = d.to };
        initial_needs_none = λ x h. fails _ (λ q. eqb-false _ _ (not-true _ (and_right (ltb x z.chunks) _ q)) (need-none x h));
        homes = ranged (λ m. cell a (home z m)) home_in_range;
        keyed = ranged (λ m. cell a (key z m)) key_in;
        named = λ i h. let b : i < cell a (head z 3) = omega (arith, pairs-length (named_set z a) (cell a (head z 3))) in rw (pairs-at (named_set z a) (cell a (head z 3)) i b) (set_in i b, set_chunk_in i b);
        distinct = λ i j l h q.
            let b : j < cell a (head z 3) = omega (arith, pairs-length (named_set z a) (cell a (head z 3))) in
            set_apart i j l b (ap (λ e. e.0) (sym (pairs-at (named_set z a) (cell a (head z 3)) i (omega arith))) ∙ q ∙ ap (λ e. e.0) (pairs-at (named_set z a) (cell a (head z 3)) j b));
        room = omega (arith, pairs-length (named_set z a) (cell a (head z 3)), H.named);
        logged = λ i h. let b : i < cell a (head z 4) = omega (arith, pairs-length (entry z a) (cell a (head z 4))) in rw (pairs-at (entry z a) (cell a (head z 4)) i b) (entry_chunk_in i b, entry_module_in i b);
        used = omega (arith, pairs-length (entry z a) (cell a (head z 4)), H.used);
        merges = merges_right;
      }

  -- the merges can be followed
  pub follows : {n : ℕ} → mode_in z a ≡ true → n ≡ cell a (head z 1) → CanFollow z a n
  follows {n} m e = record { within = H.within; long = H.long; few = omega (arith, H.fits, e); on = m; range = rw e merges_right.range }
