-- What each call may rely on once no row refuses it. Assumes nothing.
use Rattle.std.specs.Prelude.{ℕ, zero, suc, ◌+◌, ◌-◌, ◌<◌, ◌≤◌, ◌≡◌, Bool, true, not, ◌&&◌, ◌||◌, List, eqb}
use native.Mathlib.Omega.{arith}
use Rattle.std.proofs.Common.{sym, ap₂, ◌∙◌}
use Rattle.std.proofs.Math.Path.{ap}
use Rattle.std.proofs.Math.Bool.{false}
use Rattle.std.proofs.Math.ListN.{get_or, length}
use Rattle.std.proofs.Math.Dec.{leb, ltb}
use borrow.Author.Tests.{eqb-true, eqb-false, eq-eqb, ne_eqb, leb-false, ltb-false, lt-ltb, le-ltb, not-false}
use Rattle.graphs.specs.Bools.{and_left, or_false_left, or_false_right}
use Rattle.graphs.specs.Lists.{below, some_none}
use Rattle.graphs.specs.Walk.{via}
use Rattle.graph_walks.specs.Closed.{flag_edge}
use Rattle.graph_walks.specs.Counted.{counted, without}
use Rattle.graph_walks.specs.Ends.{end_at, end_edge}
use Rattle.entry_set.specs.Sets.{value, width}
use Rattle.merge_state.specs.declared.Sizes.{Sizes}
use Rattle.merge_state.specs.State.{None, chunk_of, pairs}
use Rattle.merge_state.specs.Merges.{ending, end, counts}
use Rattle.merge_state.specs.Counted.{counted-ends}
use Rattle.merge_state.specs.Methods.{warns, warn, reachable}
use Rattle.merge_state.specs.Table.{says, chunk, nothing, init_module_assignment, add_module_to_chunk, to_temp_idx, calc_chunk_dependencies, would_create_circular_dependency, is_reachable, merge_chunk_dependencies, falling, bad_starts, bad_lists, over_lists, later, acted, full}
use Rattle.merge_state.specs.Ordered.{seen}
use Rattle.merge_state.specs.Kept.{none-fits, no_misfit}
use Rattle.merge_area.specs.Layout.{cell, head, key}
use Rattle.merge_area.specs.Read.{read, sets-in, keys_in, entry, named_set, depends_in, mode_in, into_in}
use Rattle.merge_area.specs.Merged.{Led, led_end}
use Rattle.merge_state.specs.Pairs.{pairs-length, pairs-at}
use Rattle.merge_area.specs.Within.{Headed}
use Rattle.merge_area.specs.Calls.{refusal, standing}
use Rattle.merge_warning.specs.Hits.{CanAsk}
use Rattle.merge_warning.specs.EndHits.{CanAskEnds}
use Rattle.merge_laws.specs.Rows.{Stood, free}
use Rattle.merge_laws.specs.Can.{CanAppend, CanAssign, CanCalc, CanMergeArea}
use Rattle.merge_laws.specs.Ordering.{flags_clean, merges_right, depends-flag, home_in_range, entry_chunk_in, entry_module_in, set_chunk_in}

-- entries are left
left : (z : Sizes) (a : List ℕ) → full z (read z a) ≡ false → cell a (head z 4) < z.entries
left z a h = omega (arith, leb-false z.entries (length (pairs (entry z a) (cell a (head z 4)))) h, pairs-length (entry z a) (cell a (head z 4)))

module _ (z : Sizes) (a : List ℕ) where
  pub may_add : (m x : ℕ) (effs : List ℕ) {q : ℕ} → q ≡ refusal z a (add_module_to_chunk m x effs) → q ≡ 0 → CanAppend z a x m × (m < length effs)
  unfolding later bad_lists
  may_add m x effs e h =
      let f = free z a (add_module_to_chunk m x effs) e h in
      let h₁ = none-fits _ 16 _ (omega arith) f.later in
      let h₂ = none-fits _ 19 _ (omega arith) h₁.1 in
      let mm : m < z.modules = leb-false _ _ (or_false_left (leb z.modules m) _ h₁.0) in
      let xx : x < cell a (head z 1) = leb-false _ _ (or_false_right (leb z.modules m) _ h₁.0) in
      let long : length effs ≡ z.modules = eqb-true _ _ (not-false _ f.lists) in
      (record { within = f.stood.headed.within; long = f.stood.headed.long; chunk = omega (arith, f.stood.headed.fits); listed = mm; left = left z a h₂.0 }, omega arith)

  pub may_init : (m : ℕ) (set effs : List ℕ) {q : ℕ} → q ≡ refusal z a (init_module_assignment m set effs) → q ≡ 0 → CanAssign z a m (chunk_of (value set) (sets-in z a)) × (m < length effs) × (length set ≤ 4) × Headed z a
  unfolding later bad_lists
  may_init m set effs e h =
      let f = free z a (init_module_assignment m set effs) e h in
      let h₁ = none-fits _ 16 _ (omega arith) f.later in
      let h₂ = none-fits _ 18 _ (omega arith) h₁.1 in
      let h₃ = none-fits _ 19 _ (omega arith) h₂.1 in
      let mm : m < z.modules = leb-false _ _ (or_false_left (leb z.modules m) _ h₁.0) in
      let fit = not-false _ (or_false_right (leb z.modules m) _ h₁.0) in
      let w = eqb-true (length set) (width z.bits) (and_left (eqb (length set) (width z.bits)) _ fit) in
      let long : length effs ≡ z.modules = eqb-true _ _ (not-false _ f.lists) in
      let x = chunk_of (value set) (sets-in z a) in
      let H = f.stood.headed in (
        record {
          within = H.within;
          long = H.long;
          listed = mm;
          left = left z a h₃.0;
          room = λ q. let made : cell a (head z 1) < z.chunks = leb-false _ _ (free-chunk x h₂.0 q) in (made, omega (arith, H.named));
          chunk = λ n. omega (arith, named-chunk f.stood n, H.fits);
        },
        omega arith,
        omega (arith, w, H.within.bits),
        H,
      )
    where
      free-chunk : (x : ℕ) → (eqb x None && leb z.chunks (cell a (head z 1))) ≡ false → x ≡ None → leb z.chunks (cell a (head z 1)) ≡ false
      free-chunk x k q = rw (eq-eqb x None q) at k

      named-chunk : Stood z a → (chunk_of (value set) (sets-in z a) ≡ None → ⊥) → chunk_of (value set) (sets-in z a) < cell a (head z 1)
      named-chunk s n =
          let r = seen (value set) (sets-in z a) n in
          let b : r.0 < cell a (head z 3) = omega (arith, r.1, pairs-length (named_set z a) (cell a (head z 3))) in
          rw (← r.2, pairs-at (named_set z a) (cell a (head z 3)) r.0 b) (set_chunk_in z a s r.0 b)

  -- a start is at most the last one
  up : (l : List ℕ) (n : ℕ) → ((i : ℕ) → i < n → get_or l i 0 ≤ get_or l (i + 1) 0) → (k i : ℕ) → i + k ≡ n → get_or l i 0 ≤ get_or l n 0
  up l n r zero i e = let q : i ≡ n = omega arith in rw q (omega arith)
  up l n r (suc k) i e = omega (arith, r i (omega arith), up l n r k (i + 1) (omega arith))

  pub may_calc : (starts deps : List ℕ) {q : ℕ} → q ≡ refusal z a (calc_chunk_dependencies starts deps) → q ≡ 0 → CanCalc z a starts deps (cell a (head z 4)) × Headed z a
  unfolding later bad_lists bad_starts falling
  may_calc starts deps e h =
      let f = free z a (calc_chunk_dependencies starts deps) e h in
      let h₁ = none-fits _ 16 _ (omega arith) f.later in
      let st₁ = or_false_right (not (eqb (length starts) (z.modules + 1))) _ f.lists in
      let st₂ = or_false_right (not (eqb (get_or starts 0 0) 0)) _ st₁ in
      let st₃ = or_false_right (not (eqb (get_or starts z.modules 0) (length deps))) _ st₂ in
      let last : get_or starts z.modules 0 ≡ length deps = eqb-true _ _ (not-false _ (or_false_left (not (eqb (get_or starts z.modules 0) (length deps))) _ st₂)) in
      let rise : (i : ℕ) → i < z.modules → get_or starts i 0 ≤ get_or starts (i + 1) 0 = λ i b. ltb-false _ _ (some_none (λ i. ltb (get_or starts (i + 1) 0) (get_or starts i 0)) z.modules st₃ i b) in
      let s = f.stood in (
        record {
          within = s.headed.within;
          long = s.headed.long;
          homed = λ m b n. omega (arith, home_in_range z a s m b n, s.headed.fits);
          few = s.headed.used;
          chunks = λ i b. omega (arith, entry_chunk_in z a s i b, s.headed.fits);
          listed = λ i b. entry_module_in z a s i b;
          modules = no_misfit z.modules deps h₁.0;
          count = eqb-true _ _ (not-false _ (or_false_left (not (eqb (length starts) (z.modules + 1))) _ f.lists));
          rising = rise;
          ends = λ i b. omega (arith, up starts z.modules rise (z.modules - i) i (omega arith), last);
        },
        s.headed,
      )

  -- two made chunks
  pub pair : (s t : ℕ) → Stood z a → s < cell a (head z 1) → t < cell a (head z 1) → CanAsk a z.chunks (cell a (head z 1)) s t
  pair s t k b c =
      let H = k.headed in
      record {
        cells = omega (arith, native.Mathlib.Nat.mul-le-mul_right {m = cell a (head z 1)} {n = z.chunks} z.chunks H.fits, H.long);
        narrow = H.fits;
        few = H.within.chunks;
        first = b;
        second = c;
      }

  made_pair : (s t : ℕ) → Stood z a → (leb (cell a (head z 1)) s || leb (cell a (head z 1)) t) ≡ false → CanAsk a z.chunks (cell a (head z 1)) s t
  made_pair s t k h = pair s t k (leb-false _ _ (or_false_left (leb (cell a (head z 1)) s) _ h)) (leb-false _ _ (or_false_right (leb (cell a (head z 1)) s) _ h))

  pub may-ask : (s t : ℕ) {q : ℕ} → q ≡ refusal z a (would_create_circular_dependency s t) → q ≡ 0 → CanAsk a z.chunks (cell a (head z 1)) s t × Stood z a
  unfolding later
  may-ask s t e h = let f = free z a (would_create_circular_dependency s t) e h in (made_pair s t f.stood (none-fits _ 16 _ (omega arith) f.later).0, f.stood)

  pub may-reach : (s t : ℕ) {q : ℕ} → q ≡ refusal z a (is_reachable s t) → q ≡ 0 → CanAsk a z.chunks (cell a (head z 1)) s t × Stood z a
  unfolding later
  may-reach s t e h = let f = free z a (is_reachable s t) e h in (made_pair s t f.stood (none-fits _ 16 _ (omega arith) f.later).0, f.stood)

  -- a merge is refused by the rows that refuse the question
  pub pair_merge : (t s : ℕ) {q : ℕ} → q ≡ refusal z a (would_create_circular_dependency t s) → q ≡ refusal z a (merge_chunk_dependencies t s)
  unfolding refusal later over_lists bad_lists
  pair_merge t s e = e

  pub may-merge : (t s : ℕ) {q : ℕ} → q ≡ refusal z a (merge_chunk_dependencies t s) → q ≡ 0 → CanMergeArea z a t s
  unfolding later
  may-merge t s e h =
      let f = free z a (merge_chunk_dependencies t s) e h in
      let h₁ = none-fits _ 16 _ (omega arith) f.later in
      let h₂ = none-fits _ 20 _ (omega arith) h₁.1 in
      let p = made_pair t s f.stood h₁.0 in
      record {
        within = f.stood.headed.within;
        long = f.stood.headed.long;
        target = omega (arith, p.first, p.narrow);
        source = omega (arith, p.second, p.narrow);
        differ = eqb-false _ _ h₂.0;
      }

  -- the questions' answers, by the flags
  depends-by : {n : ℕ} → Stood z a → n ≡ cell a (head z 1) → flag_edge a z.chunks n ≡ depends_in z a
  depends-by k e = rw e (sym (depends-flag z a (cell a (head z 1)) k.headed.fits (flags_clean z a k)))

  pub warn-by-flags : (s t : ℕ) {r : Bool} {n : ℕ} → Stood z a → mode_in z a ≡ false → n ≡ cell a (head z 1) → r ≡ warns (flag_edge a z.chunks n) n s t → r ≡ warn (read z a) s t
  unfolding warn
  warn-by-flags s t {r} {n} k m e h = h ∙ (rw m (ap₂ (λ d n. warns d n s t) (depends-by k e) e))

  pub reach-by-flags : (s t : ℕ) {r : Bool} {n : ℕ} → Stood z a → mode_in z a ≡ false → n ≡ cell a (head z 1) → r ≡ via (flag_edge a z.chunks n) (below n) s t → r ≡ reachable (read z a) s t
  unfolding reachable
  reach-by-flags s t k m e h = h ∙ (rw m (ap₂ (λ d n. via d (below n) s t) (depends-by k e) e))

  -- where merged chunks stand for the end of their merges
  module _ {n : ℕ} {ends : List ℕ} (k : Stood z a) (m : mode_in z a ≡ true) (e : n ≡ cell a (head z 1)) (led : Led (into_in z a) n 1024 ends) where
    pub end_is : (x : ℕ) → x < n → end_at ends x ≡ end (read z a) x
    end_is x b =
        let v = merges_right z a k in
        let few : n ≤ 1024 = omega (arith, k.headed.fits, k.headed.within.chunks, e) in
        led_end (into_in z a) n (rw e v.range) led few v.no_ring x b ∙ ap (λ i. ending (into_in z a) i x) e

    pub ask-ends : (s t : ℕ) → CanAsk a z.chunks (cell a (head z 1)) s t → CanAskEnds a z.chunks n ends s t
    ask-ends s t can = record { ask = rw e can; long = led.inside.long; each = led.inside.each }

    counts_is : counted (flag_edge a z.chunks n) (end_at ends) n ≡ counts (read z a)
    counts_is = counted-ends (flag_edge a z.chunks n) (end_at ends) (end (read z a)) n end_is ∙ ap₂ (λ d i. counted d (end (read z a)) i) (depends-by k e) e

    pub warn-by-ends : (s t : ℕ) {r : Bool} → r ≡ warns (end_edge a z.chunks n ends s t) n s t → r ≡ warn (read z a) s t
    unfolding warn
    warn-by-ends s t h = h ∙ (rw m (ap₂ (λ d i. warns (without d s t) i s t) counts_is e))

    pub reach-by-ends : (s t : ℕ) {r : Bool} → s < n → t < n → r ≡ via (counted (flag_edge a z.chunks n) (end_at ends) n) (below n) (end_at ends s) (end_at ends t) → r ≡ reachable (read z a) s t
    unfolding reachable
    reach-by-ends s t b c h = h ∙ (rw (m, end_is s b, end_is t c) (ap₂ (λ d i. via d (below i) (end (read z a) s) (end (read z a) t)) counts_is e))

  pub warn_is : (s t : ℕ) {r : Bool} → r ≡ warn (read z a) s t → says r ≡ (acted z (read z a) (would_create_circular_dependency s t)).0
  unfolding acted
  warn_is s t h = ap says h

  pub reach_is : (s t : ℕ) {r : Bool} → r ≡ reachable (read z a) s t → says r ≡ (acted z (read z a) (is_reachable s t)).0
  unfolding acted
  reach_is s t h = ap says h

  -- the chunk of a key
  pub temp_stands : (k : ℕ) {q : ℕ} → q ≡ standing z false false a → q ≡ refusal z a (to_temp_idx k)
  unfolding standing refusal later over_lists bad_lists
  temp_stands k e = e

  pub temp_past : (k : ℕ) → z.chunks ≤ k → nothing ≡ (acted z (read z a) (to_temp_idx k)).0
  unfolding acted
  temp_past k h = rw (le-ltb k z.chunks h)

  pub temp_none : (k : ℕ) → k < z.chunks → cell a (key z k) ≡ None → nothing ≡ (acted z (read z a) (to_temp_idx k)).0
  unfolding acted keys_in
  temp_none k h e = rw (lt-ltb k z.chunks h, eq-eqb (cell a (key z k)) None e)

  pub temp_some : (k : ℕ) → k < z.chunks → (cell a (key z k) ≡ None → ⊥) → chunk (cell a (key z k)) ≡ (acted z (read z a) (to_temp_idx k)).0
  unfolding acted keys_in
  temp_some k h n = rw (lt-ltb k z.chunks h, ne_eqb (cell a (key z k)) None n)
