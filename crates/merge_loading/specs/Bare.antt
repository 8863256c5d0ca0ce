-- The numbers of an area before the list entries: each field as it was written. Assumes nothing.
use Prim.Native.Nat.{ℕ, zero, suc, ◌+◌, ◌*◌, ◌^◌, ◌≤◌, ◌<◌}
use native.Mathlib.Omega.{arith}
use Rattle.std.proofs.Common.{zero-add, sym, ◌∙◌}
use Rattle.std.proofs.Math.Numerals.{add-one}
use Rattle.std.proofs.Math.Decide.{ℕ_discrete}
use Rattle.std.specs.Prelude.{◌≡◌, List, get_or, length, replicate}
use Rattle.std.proofs.Math.Path.{refl, ap}
use Rattle.std.proofs.Math.ListN.{set, length-set, length-replicate, get_or-replicate}
use Rattle.std.proofs.Math.Seq.{get_or-set_same, get_or-set_other}
use Rattle.graphs.specs.Count.{ind}
use Rattle.graphs.specs.Tab.{tab, tab-length, tab-at}
use Rattle.layout.specs.Patch.{patch, patch_long, patch_in, patch-out}
use Rattle.entry_set.specs.Joined.{parts}
use Rattle.entry_set.specs.JoinedLaws.{length-parts}
use Rattle.entry_set.specs.Sets.{value, width}
use Rattle.entry_set.specs.Lanes.{lanes, set_lanes}
use Rattle.entry_set.specs.LaneLaws.{length-set_strided, set_strided-other, lanes-set, lanes-same}
use Rattle.merge_state.specs.declared.Sizes.{Sizes}
use Rattle.merge_state.specs.State.{None}
use Rattle.merge_state.specs.State as state
use Rattle.merge_state.specs.Loading.{set_at}
use Rattle.merge_area.specs.Layout.{room, cell, head, set_place, set_chunk, side, need, key, into, home}
use Rattle.merge_area.specs.Within.{Within}
use Rattle.merge_loading.specs.Loading.{mode_area, first_key, cleared_area, headed_area, named_area, bare_area}

-- the mode, and no merge
module _ (z : Sizes) (m : ℕ) (a : List ℕ) where
  abbrev unmerged : List ℕ
  unmerged = patch (into z 0) (replicate z.chunks None) a

  pub mode_long : length (mode_area z m a) ≡ length a
  unfolding mode_area
  mode_long = rw length-set (patch_long (into z 0) (replicate z.chunks None) a)

  module _ (long : room z ≤ length a) where
    pub mode_head : cell (mode_area z m a) (head z 5) ≡ ind (state.yes m)
    unfolding mode_area
    mode_head = get_or-set_same unmerged (head z 5) (ind (state.yes m)) 0 (omega (arith, patch_long (into z 0) (replicate z.chunks None) a))

    pub mode_into : (x : ℕ) → x < z.chunks → cell (mode_area z m a) (into z x) ≡ None
    unfolding mode_area
    mode_into x h =
        let e : into z x ≡ into z 0 + x = omega arith in
        get_or-set_other unmerged (head z 5) (into z x) (ind (state.yes m)) 0 (omega arith) ∙ ap (cell unmerged) e
        ∙ patch_in (into z 0) (replicate z.chunks None) a x (rw length-replicate h) (omega arith) ∙ get_or-replicate {A = ℕ} z.chunks x None 0 h

-- no dependency, side effect, need or module's chunk, and the first keys
module _ (z : Sizes) (i : ℕ) (a : List ℕ) where
  abbrev flags : List ℕ
  flags = patch 0 (replicate (z.chunks * z.chunks) 0) a

  abbrev sides : List ℕ
  sides = patch (side z 0) (replicate (2 * z.chunks) 0) flags

  abbrev keys : List ℕ
  keys = patch (key z 0) (tab (first_key i) z.chunks) sides

  flags_long : length flags ≡ length a
  flags_long = patch_long 0 (replicate (z.chunks * z.chunks) 0) a

  sides_long : length sides ≡ length a
  sides_long = patch_long (side z 0) (replicate (2 * z.chunks) 0) flags ∙ flags_long

  keys_long : length keys ≡ length a
  keys_long = patch_long (key z 0) (tab (first_key i) z.chunks) sides ∙ sides_long

  pub cleared_long : length (cleared_area z i a) ≡ length a
  unfolding cleared_area
  cleared_long = patch_long (home z 0) (replicate z.modules None) keys ∙ keys_long

  module _ (long : room z ≤ length a) where
    -- before the modules' chunks
    low : (k : ℕ) → k < home z 0 → cell (cleared_area z i a) k ≡ cell keys k
    unfolding cleared_area
    low k h = patch-out (home z 0) (replicate z.modules None) keys k (omega (arith, keys_long)) (λ b. absurd (omega arith))

    -- before the keys
    lower : (k : ℕ) → k < key z 0 → cell (cleared_area z i a) k ≡ cell sides k
    lower k h = low k (omega arith) ∙ patch-out (key z 0) (tab (first_key i) z.chunks) sides k (omega (arith, sides_long)) (λ b. absurd (omega arith))

    -- header and merges aren't cleared
    pub cleared-head : (k : ℕ) → k < 32 → cell (cleared_area z i a) (head z k) ≡ cell a (head z k)
    cleared-head k h =
        lower (head z k) (omega arith) ∙ patch-out (side z 0) (replicate (2 * z.chunks) 0) flags (head z k) (omega (arith, flags_long)) (λ b. absurd (omega arith))
        ∙ patch-out 0 (replicate (z.chunks * z.chunks) 0) a (head z k) (omega arith) (λ b. rw length-replicate (omega arith))

    pub cleared-into : (x : ℕ) → x < z.chunks → cell (cleared_area z i a) (into z x) ≡ cell a (into z x)
    cleared-into x h =
        low (into z x) (omega arith) ∙ patch-out (key z 0) (tab (first_key i) z.chunks) sides (into z x) (omega (arith, sides_long)) (λ b. rw tab-length (omega arith))
        ∙ patch-out (side z 0) (replicate (2 * z.chunks) 0) flags (into z x) (omega (arith, flags_long)) (λ b. rw length-replicate (omega arith))
        ∙ patch-out 0 (replicate (z.chunks * z.chunks) 0) a (into z x) (omega arith) (λ b. rw length-replicate (omega arith))

    pub cleared-flag : (k : ℕ) → k < z.chunks * z.chunks → cell (cleared_area z i a) k ≡ 0
    cleared-flag k h =
        lower k (omega arith) ∙ patch-out (side z 0) (replicate (2 * z.chunks) 0) flags k (omega (arith, flags_long)) (λ b. absurd (omega arith))
        ∙ ap (cell flags) (sym (zero-add k)) ∙ patch_in 0 (replicate (z.chunks * z.chunks) 0) a k (rw length-replicate h) (omega arith) ∙ get_or-replicate {A = ℕ} (z.chunks * z.chunks) k 0 0 h

    pub cleared-side : (x : ℕ) → x < 2 * z.chunks → cell (cleared_area z i a) (side z x) ≡ 0
    cleared-side x h =
        let e : side z x ≡ side z 0 + x = omega arith in
        lower (side z x) (omega arith) ∙ ap (cell sides) e
        ∙ patch_in (side z 0) (replicate (2 * z.chunks) 0) flags x (rw length-replicate h) (omega (arith, flags_long)) ∙ get_or-replicate {A = ℕ} (2 * z.chunks) x 0 0 h

    pub cleared-need : (x : ℕ) → x < z.chunks → cell (cleared_area z i a) (need z x) ≡ 0
    cleared-need x h = let e : need z x ≡ side z (z.chunks + x) = omega arith in ap (cell (cleared_area z i a)) e ∙ cleared-side (z.chunks + x) (omega arith)

    pub cleared-key : (k : ℕ) → k < z.chunks → cell (cleared_area z i a) (key z k) ≡ first_key i k
    cleared-key k h =
        let e : key z k ≡ key z 0 + k = omega arith in
        low (key z k) (omega arith) ∙ ap (cell keys) e
        ∙ patch_in (key z 0) (tab (first_key i) z.chunks) sides k (rw tab-length h) (omega (arith, sides_long)) ∙ tab-at (first_key i) z.chunks k h

    pub cleared-home : (m : ℕ) → m < z.modules → cell (cleared_area z i a) (home z m) ≡ None
    unfolding cleared_area
    cleared-home m h =
        let e : home z m ≡ home z 0 + m = omega arith in
        ap (cell (cleared_area z i a)) e ∙ patch_in (home z 0) (replicate z.modules None) keys m (rw length-replicate h) (omega (arith, keys_long)) ∙ get_or-replicate {A = ℕ} z.modules m None 0 h

-- the header
module _ (z : Sizes) (i p : ℕ) (a : List ℕ) where
  abbrev h₀ : List ℕ
  h₀ = set a (head z 0) i

  abbrev h₁ : List ℕ
  h₁ = set h₀ (head z 1) i

  abbrev h₂ : List ℕ
  h₂ = set h₁ (head z 2) 0

  abbrev h₃ : List ℕ
  h₃ = set h₂ (head z 3) p

  pub headed_long : length (headed_area z i p a) ≡ length a
  unfolding headed_area
  headed_long = simp length-set

  pub headed_far : (k : ℕ) → ((j : ℕ) → j < 5 → k ≡ head z j → ⊥) → cell (headed_area z i p a) k ≡ cell a k
  unfolding headed_area
  headed_far k h =
      get_or-set_other h₃ (head z 4) k 0 0 (h 4 (omega arith)) ∙ get_or-set_other h₂ (head z 3) k p 0 (h 3 (omega arith)) ∙ get_or-set_other h₁ (head z 2) k 0 0 (h 2 (omega arith))
      ∙ get_or-set_other h₀ (head z 1) k i 0 (h 1 (omega arith)) ∙ get_or-set_other a (head z 0) k i 0 (h 0 (omega arith))

  module _ (long : room z ≤ length a) where
    pub headed_initial : cell (headed_area z i p a) (head z 0) ≡ i
    unfolding headed_area
    headed_initial =
        get_or-set_other h₃ (head z 4) (head z 0) 0 0 (omega arith) ∙ get_or-set_other h₂ (head z 3) (head z 0) p 0 (omega arith) ∙ get_or-set_other h₁ (head z 2) (head z 0) 0 0 (omega arith)
        ∙ get_or-set_other h₀ (head z 1) (head z 0) i 0 (omega arith) ∙ get_or-set_same a (head z 0) i 0 (omega arith)

    pub headed_made : cell (headed_area z i p a) (head z 1) ≡ i
    unfolding headed_area
    headed_made =
        get_or-set_other h₃ (head z 4) (head z 1) 0 0 (omega arith) ∙ get_or-set_other h₂ (head z 3) (head z 1) p 0 (omega arith) ∙ get_or-set_other h₁ (head z 2) (head z 1) 0 0 (omega arith)
        ∙ get_or-set_same h₀ (head z 1) i 0 (simp length-set (omega arith))

    pub headed_created : cell (headed_area z i p a) (head z 2) ≡ 0
    unfolding headed_area
    headed_created =
        get_or-set_other h₃ (head z 4) (head z 2) 0 0 (omega arith) ∙ get_or-set_other h₂ (head z 3) (head z 2) p 0 (omega arith) ∙ get_or-set_same h₁ (head z 2) 0 0 (simp length-set (omega arith))

    pub headed_sets : cell (headed_area z i p a) (head z 3) ≡ p
    unfolding headed_area
    headed_sets = get_or-set_other h₃ (head z 4) (head z 3) 0 0 (omega arith) ∙ get_or-set_same h₂ (head z 3) p 0 (simp length-set (omega arith))

    pub headed_used : cell (headed_area z i p a) (head z 4) ≡ 0
    unfolding headed_area
    headed_used = get_or-set_same h₃ (head z 4) 0 0 (simp length-set (omega arith))

-- the sets of the pairs, and their chunks
module _ (z : Sizes) (flat chunks a : List ℕ) where
  abbrev nth : ℕ → ℕ
  nth k = value (set_at (width z.bits) flat k)

  abbrev laid : ℕ → List ℕ
  laid k = set_lanes (named_area z flat chunks a k) (set_place z k) 1 (nth k)

  laid_long : (k : ℕ) → length (laid k) ≡ length (named_area z flat chunks a k)
  laid_long k = length-set_strided (named_area z flat chunks a k) (set_place z k) 1 (parts 32 8 (nth k))

  pub named_long : (k : ℕ) → length (named_area z flat chunks a k) ≡ length a
  unfolding named_area
  named_long zero = refl
  named_long (suc k) = length-set (laid k) (set_chunk z k) (get_or chunks k 0) ∙ laid_long k ∙ named_long k

  -- one pair more leaves the numbers that aren't its own
  other : (k j : ℕ) → ((x : ℕ) → x < 8 → j ≡ set_place z k + x * 1 → ⊥) → (j ≡ set_chunk z k → ⊥) → cell (named_area z flat chunks a (suc k)) j ≡ cell (named_area z flat chunks a k) j
  unfolding named_area
  other k j p q =
      get_or-set_other (laid k) (set_chunk z k) j (get_or chunks k 0) 0 q
      ∙ set_strided-other (named_area z flat chunks a k) (set_place z k) 1 (parts 32 8 (nth k)) j (λ x h. p x (omega (arith, h, length-parts 32 8 (nth k))))

  pub named_far : (k j : ℕ) → k ≤ 2 * z.chunks → (z.chunks * z.chunks + 32 ≤ j → z.chunks * z.chunks + 32 + 18 * z.chunks ≤ j) → cell (named_area z flat chunks a k) j ≡ cell a j
  unfolding named_area
  named_far zero j h f = refl
  named_far (suc k) j h f =
      other k j (λ x b e. let g = f (omega arith) in omega arith) (λ e. let g = f (omega arith) in omega arith) ∙ named_far k j (omega arith) f

  module _ (long : room z ≤ length a) where
    pub named_chunk : (k i : ℕ) → k ≤ 2 * z.chunks → i < k → cell (named_area z flat chunks a k) (set_chunk z i) ≡ get_or chunks i 0
    unfolding named_area
    named_chunk zero i h b = absurd (omega arith)
    named_chunk (suc k) i h b = elim (ℕ_discrete i k) [
      | yes q ↦ rw q (get_or-set_same (laid k) (set_chunk z k) (get_or chunks k 0) 0 (omega (arith, laid_long k, named_long k)))
      | no q ↦ other k (set_chunk z i) (λ x c e. omega arith) (λ e. omega arith) ∙ named_chunk k i (omega arith) (omega arith)
    ]

    pub named_value : (k i : ℕ) → k ≤ 2 * z.chunks → ((j : ℕ) → j < k → nth j < 2 ^ 256) → i < k → lanes (named_area z flat chunks a k) (set_place z i) 1 ≡ nth i
    unfolding named_area
    named_value zero i h s b = absurd (omega arith)
    named_value (suc k) i h s b = elim (ℕ_discrete i k) [
      | yes q ↦ rw q (lanes-same (named_area z flat chunks a (suc k)) (laid k) (set_place z k) 1 (λ x c. get_or-set_other (laid k) (set_chunk z k) (set_place z k + x * 1) (get_or chunks k 0) 0 (λ e. omega arith))
          ∙ lanes-set (named_area z flat chunks a k) (set_place z k) 1 (nth k) (omega arith) (omega (arith, named_long k)) (s k (omega arith)))
      | no q ↦ lanes-same (named_area z flat chunks a (suc k)) (named_area z flat chunks a k) (set_place z i) 1 (λ x c. other k (set_place z i + x * 1) (λ y d e. omega arith) (λ e. omega arith))
          ∙ named_value k i (omega arith) (λ j c. s j (omega arith)) (omega arith)
    ]

-- the lent pairs can be written
pub record CanName (z : Sizes) (flat chunks a : List ℕ) : Type 0 where
  pub within : Within z
  pub long : room z ≤ length a
  pub few : length chunks ≤ z.chunks
  pub full : length flat ≡ length chunks * width z.bits

-- a is a₀ with the first k pairs
pub record Named (z : Sizes) (flat chunks a₀ : List ℕ) (k : ℕ) (a : List ℕ) : Type 0 where
  pub most : k ≤ length chunks
  pub area : a ≡ named_area z flat chunks a₀ k

module _ {z : Sizes} {flat chunks a₀ : List ℕ} where
  pub name_none : Named z flat chunks a₀ 0 a₀
  unfolding named_area
  name_none = record { most = omega arith; area = refl }

  module _ {k : ℕ} {a : List ℕ} (n : Named z flat chunks a₀ k a) where
    pub name_long : length a ≡ length a₀
    name_long = ap length n.area ∙ named_long z flat chunks a₀ k

    pub name_more : {v : ℕ} {b : List ℕ} → k < length chunks → v ≡ value (set_at (width z.bits) flat k) → b ≡ set (set_lanes a (set_place z k) 1 v) (set_chunk z k) (get_or chunks k 0) → Named z flat chunks a₀ (k + 1) b
    unfolding named_area
    name_more {v} {b} h e q = record {
      most = omega arith;
      area = rw add-one (q ∙ ap (λ u. set (set_lanes u (set_place z k) 1 v) (set_chunk z k) (get_or chunks k 0)) n.area
          ∙ ap (λ u. set (set_lanes (named_area z flat chunks a₀ k) (set_place z k) 1 u) (set_chunk z k) (get_or chunks k 0)) e);
    }

    pub name_done : k ≡ length chunks → a ≡ named_area z flat chunks a₀ (length chunks)
    name_done e = n.area ∙ ap (named_area z flat chunks a₀) e

-- the whole
module _ (z : Sizes) (i : ℕ) (flat chunks a : List ℕ) (few : length chunks ≤ z.chunks) where
  abbrev base : List ℕ
  base = headed_area z i (length chunks) (cleared_area z i a)

  pub base_long : length base ≡ length a
  base_long = headed_long z i (length chunks) (cleared_area z i a) ∙ cleared_long z i a

  pub bare_long : length (bare_area z i flat chunks a) ≡ length a
  unfolding bare_area
  bare_long = named_long z flat chunks base (length chunks) ∙ base_long

  -- a number that no pair's place is
  pub bare_far : (j : ℕ) → (z.chunks * z.chunks + 32 ≤ j → z.chunks * z.chunks + 32 + 18 * z.chunks ≤ j) → cell (bare_area z i flat chunks a) j ≡ cell base j
  unfolding bare_area
  bare_far j f = named_far z flat chunks base (length chunks) j (omega arith) f

  pub bare-used : room z ≤ length a → cell (bare_area z i flat chunks a) (head z 4) ≡ 0
  bare-used long = bare_far (head z 4) (λ h. absurd (omega arith)) ∙ headed_used z i (length chunks) (cleared_area z i a) (omega (arith, cleared_long z i a))
