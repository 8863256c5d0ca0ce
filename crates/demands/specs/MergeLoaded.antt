-- A loading on areas: the graph that the area then holds, and that it is consistent. Assumes nothing.
use Prim.Native.Nat.{ℕ, zero, suc, ◌+◌, ◌*◌, ◌<◌, ◌≤◌}
use Rattle.std.proofs.Common.{arith, sym, ◌∙◌, subst}
use Rattle.std.proofs.Math.Decide.{dec_lt}
use Rattle.std.specs.Prelude.{◌≡◌, refl, Bool, true, false, List, [], length, ltb}
use Rattle.std.proofs.Math.Path.{ap, ap₂}
use Rattle.std.proofs.Math.ListN.{get_or}
use borrow.Author.Tests.{lt-ltb, le-ltb, ltb-true, eqb-false, not-true}
use Rattle.graphs.specs.Bools.{and_left, and_right, fails}
use Rattle.entry_set.specs.Sets.{width}
use Rattle.entry_set.specs.SetLaws.{below_256, sets-room}
use Rattle.merge_state.specs.declared.Sizes.{Sizes}
use Rattle.merge_state.specs.State.{None, Graph, pairs}
use Rattle.merge_state.specs.State as state
use Rattle.merge_state.specs.Methods.{appended}
use Rattle.merge_state.specs.Table.{turned}
use Rattle.merge_state.specs.Ordered.{Ordered}
use Rattle.merge_state.specs.Loading.{Lent, lister, lent_pair, loaded, load}
use Rattle.merge_state.specs.LoadKept.{listed_in, loaded-kept, load_kept}
use Rattle.merge_area.specs.Layout.{room, cell, head, side, need, key, into, home}
use Rattle.merge_area.specs.Read.{entry, named_set, depends_in, effects_in, needs_in, log_in, sets-in, home_in, keys_in, mode_in, into_in, read}
use Rattle.merge_area.specs.Merged.{into-at, into-off, into_past}
use Rattle.merge_state.specs.Pairs.{pairs-length, pairs-same}
use Rattle.merge_area.specs.Consistent.{inconsistent}
use Rattle.merge_loading.specs.Loading.{mode_area, first_key, cleared_area, headed_area, bare_area, listed_area, loaded_area, load_refusal, load_step}
use Rattle.merge_loading.specs.Bare.{mode_long, mode_head, mode_into, cleared-head, cleared-into, cleared_long, cleared-flag, cleared-side, cleared-need, cleared-key, cleared-home, headed_far, headed_initial, headed_made, headed_created, headed_sets, headed_used, named_chunk, named_value, base_long, bare_far}
use Rattle.merge_loading.specs.Listing.{entry_can}
use Rattle.merge_loading.specs.Rows.{CanLoad, can_load, load_list}
use Rattle.merge_laws.specs.Ordering.{depends-parts}
use Rattle.merge_reads.specs.Fields.{yes-ind}
use Rattle.merge_reads.specs.Reads.{read_append}
use Rattle.merge_reads.specs.Order.{ordered_consistent}

module _ (z : Sizes) (n : Lent) (a : List ℕ) (can : CanLoad z n a) where
  abbrev count : ℕ
  count = length n.chunks

  -- the area with its mode written
  abbrev moded : List ℕ
  moded = mode_area z n.mode a

  abbrev cleared : List ℕ
  cleared = cleared_area z n.initial moded

  abbrev base : List ℕ
  base = headed_area z n.initial count cleared

  abbrev bare : List ℕ
  bare = bare_area z n.initial n.flat n.chunks moded

  moded-room : room z ≤ length moded
  moded-room = omega (arith, can.long, mode_long z n.mode a)

  cleared-room : room z ≤ length cleared
  cleared-room = omega (arith, moded-room, cleared_long z n.initial moded)

  base-room : room z ≤ length base
  base-room = omega (arith, moded-room, base_long z n.initial n.flat n.chunks moded can.allowed.few_pairs)

  -- a number of the header, and one that neither the header nor a pair has
  at_head : (k : ℕ) → k < 32 → cell bare (head z k) ≡ cell base (head z k)
  at_head k h = bare_far z n.initial n.flat n.chunks moded can.allowed.few_pairs (head z k) (λ b. absurd (omega arith))

  elsewhere : (k : ℕ) → (z.chunks * z.chunks ≤ k → z.chunks * z.chunks + 32 + 18 * z.chunks ≤ k) → cell bare k ≡ cell cleared k
  elsewhere k f =
      bare_far z n.initial n.flat n.chunks moded can.allowed.few_pairs k (λ b. f (omega arith))
      ∙ headed_far z n.initial count cleared k (λ j h e. let g = f (omega arith) in omega arith)

  no_flag : (x y : ℕ) → depends_in z bare x y ≡ false
  no_flag x y = fails _ (λ q.
      let p = depends-parts z bare x y q in
      let r = sets-room {i = x} {n = z.chunks} z.chunks p.0 in
      p.2 (elsewhere (x * z.chunks + y) (λ b. absurd (omega (arith, p.1))) ∙ cleared-flag z n.initial moded moded-room (x * z.chunks + y) (omega (arith, p.1))))

  no_effect : (x : ℕ) → effects_in z bare x ≡ false
  unfolding effects_in
  no_effect x = fails _ (λ q.
      let h = ltb-true x z.chunks (and_left (ltb x z.chunks) _ q) in
      eqb-false _ 0 (not-true _ (and_right (ltb x z.chunks) _ q)) (elsewhere (side z x) (λ b. omega arith) ∙ cleared-side z n.initial moded moded-room x (omega arith)))

  no_need : (x : ℕ) → needs_in z bare x ≡ false
  unfolding needs_in
  no_need x = fails _ (λ q.
      let h = ltb-true x z.chunks (and_left (ltb x z.chunks) _ q) in
      eqb-false _ 0 (not-true _ (and_right (ltb x z.chunks) _ q)) (elsewhere (need z x) (λ b. omega arith) ∙ cleared-need z n.initial moded moded-room x h))

  no_home : (m : ℕ) → home_in z bare m ≡ None
  unfolding home_in
  no_home m = elim (dec_lt m z.modules) [
    | yes h ↦ rw (lt-ltb m z.modules h) (elsewhere (home z m) (λ b. omega arith) ∙ cleared-home z n.initial moded moded-room m h)
    | no h ↦ rw (le-ltb m z.modules (omega arith))
  ]

  first-keys : (k : ℕ) → keys_in z bare k ≡ first_key n.initial k
  unfolding keys_in
  first-keys k = elim (dec_lt k z.chunks) [
    | yes h ↦ rw (lt-ltb k z.chunks h) (elsewhere (key z k) (λ b. omega arith) ∙ cleared-key z n.initial moded moded-room k h)
    | no h ↦ rw (le-ltb k z.chunks (omega arith), le-ltb k n.initial (omega (arith, can.allowed.few)))
  ]

  the_sets : sets-in z bare ≡ pairs (lent_pair (width z.bits) n.flat n.chunks) count
  unfolding bare_area
  the_sets =
      ap (pairs (named_set z bare)) (at_head 3 (omega arith) ∙ headed_sets z n.initial count cleared cleared-room)
      ∙ pairs-same (named_set z bare) (lent_pair (width z.bits) n.flat n.chunks) count (λ i h. ap₂ (λ u v. (u, v))
      (named_value z n.flat n.chunks base base-room count i (omega (arith, can.allowed.few_pairs)) (λ j b. below_256 can.within.bits (can.allowed.sets j b)) h)
      (named_chunk z n.flat n.chunks base base-room count i (omega (arith, can.allowed.few_pairs)) h))

  no_entry : log_in z bare ≡ []
  unfolding pairs
  no_entry = ap (pairs (entry z bare)) (at_head 4 (omega arith) ∙ headed_used z n.initial count cleared cleared-room)

  the_mode : mode_in z bare ≡ state.yes n.mode
  unfolding mode_in
  the_mode =
      ap state.yes (at_head 5 (omega arith) ∙ headed_far z n.initial count cleared (head z 5) (λ j h e. omega arith) ∙ cleared-head z n.initial moded moded-room 5 (omega arith) ∙ mode_head z n.mode a can.long)
      ∙ yes-ind (state.yes n.mode)

  no_merge : (x : ℕ) → into_in z bare x ≡ None
  no_merge x = go (mode_in z bare) refl
    where
      go : (m : Bool) → mode_in z bare ≡ m → into_in z bare x ≡ None
      go true m = elim (dec_lt x z.chunks) [
        | yes h ↦ into-at z bare x m h ∙ elsewhere (into z x) (λ b. omega arith) ∙ cleared-into z n.initial moded moded-room x h ∙ mode_into z n.mode a can.long x h
        | no h ↦ into_past z bare x (omega arith)
      ]
      go false m = into-off z bare m x

  -- before the list entries
  read-bare : read z bare ≡ loaded z n 0
  unfolding loaded
  read-bare = λ i. record {
    initial = (at_head 0 (omega arith) ∙ headed_initial z n.initial count cleared cleared-room) i;
    made = (at_head 1 (omega arith) ∙ headed_made z n.initial count cleared cleared-room) i;
    created = (at_head 2 (omega arith) ∙ headed_created z n.initial count cleared cleared-room) i;
    depends = λ x y. no_flag x y i;
    effects = λ x. no_effect x i;
    needs = λ x. no_need x i;
    log = no_entry i;
    sets = the_sets i;
    home = λ m. no_home m i;
    keys = λ k. first-keys k i;
    mode = the_mode i;
    into = λ x. no_merge x i;
  }

  abbrev entries : ℕ → List ℕ
  entries = listed_area z n.initial n.starts n.modules n.effects bare

  -- there is room for the sets
  few_sets : (k : ℕ) → k ≤ length n.modules → read z (entries k) ≡ loaded z n k → cell (entries k) (head z 3) ≤ 2 * z.chunks
  few_sets k h e =
      let l = loaded-kept z n can.within.chunks can.allowed k h in
      omega (arith, pairs-length (named_set z (entries k)) (cell (entries k) (head z 3)), ap (λ (g : Graph). length g.sets) e, l.ordered.room, l.ordered.fits)

  read-entries : (k : ℕ) → k ≤ length n.modules → read z (entries k) ≡ loaded z n k
  unfolding listed_area loaded
  read-entries zero h = read-bare
  read-entries (suc k) h =
      let r = read-entries k (omega arith) in
      let m = get_or n.modules k 0 in
      let x = lister n.starts n.initial k in
      read_append z (entries k) x m n.effects (entry_can (load_list can refl) k (omega arith) (listed_in z n can.within.chunks can.allowed k (omega arith))) (few_sets k (omega arith) r)
      ∙ ap (λ g. appended n.effects g x m) r

  -- the graph that a loading makes
  pub read-loaded : read z (loaded_area z n a) ≡ load z n
  unfolding loaded_area load
  read-loaded = read-entries (length n.modules) (omega arith)

-- After an unrefused loading the area holds that graph, and is consistent.
module _ (z : Sizes) (n : Lent) (a : List ℕ) (h : load_refusal z n a ≡ 0) where
  abbrev free : CanLoad z n a
  free = can_load z n a refl h

  pub loaded-holds : read z (load_step z n a).1 ≡ load z n
  unfolding load_step turned
  loaded-holds = rw h (read-loaded z n a free)

  pub loaded-consistent : inconsistent z (load_step z n a).1 ≡ false
  loaded-consistent = ordered_consistent z (load_step z n a).1 (subst (Ordered z) (sym loaded-holds) (load_kept z n free.within.chunks free.allowed))
