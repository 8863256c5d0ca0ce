-- The graph that the area holds after each write but a merge's and the dependencies'. Assumes nothing.
use Prim.Native.Nat.{ℕ, ◌+◌, ◌*◌, ◌^◌, ◌<◌, ◌≤◌}
use Rattle.std.proofs.Common.{arith, ◌∙◌}
use Rattle.std.specs.Prelude.{◌≡◌, ◌||◌}
use Rattle.std.proofs.Math.Path.{refl, ap}
use Rattle.std.proofs.Math.Bool.{Bool, true, false, cond}
use mathlib.Core.List.{List}
use Rattle.std.proofs.Math.ListN.{length, set, length-set}
use Rattle.std.proofs.Math.Dec.{eqb}
use Rattle.std.proofs.Math.Seq.{get_or-set_same, get_or-set_other}
use borrow.Author.Tests.{lt-ltb, eqb-true, eqb-false}
use Rattle.graphs.specs.Count.{ind}
use Rattle.entry_set.specs.Joined.{parts}
use Rattle.entry_set.specs.Lanes.{lanes, set_lanes}
use Rattle.entry_set.specs.LaneLaws.{length-set_strided, lanes-same, lanes-set}
use Rattle.entry_set.specs.SetLaws.{sets-room}
use Rattle.merge_state.specs.declared.Sizes.{Sizes}
use Rattle.merge_state.specs.State.{None, chunk_of, flag}
use Rattle.merge_state.specs.State as state
use Rattle.merge_state.specs.Methods.{appended, opened, assigned_to, registered, created_chunk}
use Rattle.merge_area.specs.Layout.{room, cell, head, set_place, set_chunk, side, need, key, into, home, entry_chunk, entry_module}
use Rattle.merge_area.specs.Read.{effects_in, sets-in, read}
use Rattle.merge_area.specs.Writes.{register_area, append_area, open_area, init_area, create_area}
use Rattle.merge_laws.specs.Can.{CanAppend, CanOpen, CanAssign, CanCreate}
use Rattle.merge_laws.specs.Keeps.{open_far, open_length, open_append}
use Rattle.merge_reads.specs.Fields.{depends-same, effects_same, effects_put, needs_same, needs_put, log_same, log_more, sets_same, sets_more, home_same, home-put, keys-same, keys-put, mode_same, into-same}

-- `register_chunk_graph_index`
module _ (z : Sizes) (a : List ℕ) (k x : ℕ) (long : room z ≤ length a) (kc : k < z.chunks) where
  register_far : (i : ℕ) → (i ≡ key z k → ⊥) → cell (register_area z a k x) i ≡ cell a i
  unfolding register_area
  register_far i n = get_or-set_other a (key z k) i x 0 n

  register-at : cell (register_area z a k x) (key z k) ≡ x
  unfolding register_area
  register-at = get_or-set_same a (key z k) x 0 (omega arith)

  pub register-length : length (register_area z a k x) ≡ length a
  unfolding register_area
  register-length = simp length-set

  pub read-register : cell a (head z 3) ≤ 2 * z.chunks → read z (register_area z a k x) ≡ registered (read z a) k x
  unfolding registered
  read-register few = λ i. record {
    initial = register_far (head z 0) (omega arith) i;
    made = register_far (head z 1) (omega arith) i;
    created = register_far (head z 2) (omega arith) i;
    depends = depends-same z a b (λ u v p q. register_far (u * z.chunks + v) (omega (arith, sets-room {i = u} {n = z.chunks} z.chunks p))) i;
    effects = effects_same z a b (λ u l. register_far (side z u) (omega arith)) i;
    needs = needs_same z a b (λ u l. register_far (need z u) (omega arith)) i;
    log = log_same z a b (register_far (head z 4) (omega arith)) (λ u l. (register_far (entry_chunk z u) (omega arith), register_far (entry_module z u) (omega arith))) i;
    sets = sets_same z a b (register_far (head z 3) (omega arith))
        (λ u l. (lanes-same b a (set_place z u) 1 (λ j h. register_far (set_place z u + j * 1) (omega arith)), register_far (set_chunk z u) (omega arith))) i;
    home = home_same z a b (λ u l. register_far (home z u) (omega arith)) i;
    keys = keys-put z a b k x kc register-at (λ j l n. register_far (key z j) (omega arith)) i;
    mode = mode_same z a b (register_far (head z 5) (omega arith)) i;
    into = into-same z a b (register_far (head z 5) (omega arith)) (λ u l. register_far (into z u) (omega arith)) i;
  }
    where
      b : List ℕ
      b = register_area z a k x

-- a chunk is created
module _ (z : Sizes) (a : List ℕ) (x : ℕ) (can : CanCreate z a) where
  abbrev next : ℕ
  next = cell a (head z 0) + cell a (head z 2)

  create_far : (i : ℕ) → (i ≡ key z next → ⊥) → (i ≡ head z 2 → ⊥) → cell (create_area z a x) i ≡ cell a i
  unfolding create_area
  create_far i n m = get_or-set_other (set a (key z next) x) (head z 2) i (cell a (head z 2) + 1) 0 m ∙ get_or-set_other a (key z next) i x 0 n

  create_key : cell (create_area z a x) (key z next) ≡ x
  unfolding create_area
  create_key = get_or-set_other (set a (key z next) x) (head z 2) (key z next) (cell a (head z 2) + 1) 0 (omega arith) ∙ get_or-set_same a (key z next) x 0 (omega (arith, can.long, can.left))

  create_count : cell (create_area z a x) (head z 2) ≡ cell a (head z 2) + 1
  unfolding create_area
  create_count = get_or-set_same (set a (key z next) x) (head z 2) (cell a (head z 2) + 1) 0 (rw length-set (omega (arith, can.long)))

  pub create_length : length (create_area z a x) ≡ length a
  unfolding create_area
  create_length = simp length-set

  pub read_create : cell a (head z 3) ≤ 2 * z.chunks → read z (create_area z a x) ≡ created_chunk (read z a) x
  unfolding created_chunk
  read_create few = λ i. record {
    initial = create_far (head z 0) (omega arith) (omega arith) i;
    made = create_far (head z 1) (omega arith) (omega arith) i;
    created = create_count i;
    depends = depends-same z a b (λ u v p q. create_far (u * z.chunks + v) (omega (arith, sets-room {i = u} {n = z.chunks} z.chunks p)) (omega (arith, sets-room {i = u} {n = z.chunks} z.chunks p))) i;
    effects = effects_same z a b (λ u l. create_far (side z u) (omega arith) (omega arith)) i;
    needs = needs_same z a b (λ u l. create_far (need z u) (omega arith) (omega arith)) i;
    log = log_same z a b (create_far (head z 4) (omega arith) (omega arith)) (λ u l. (create_far (entry_chunk z u) (omega (arith, can.left)) (omega arith), create_far (entry_module z u) (omega (arith, can.left)) (omega arith))) i;
    sets = sets_same z a b (create_far (head z 3) (omega arith) (omega arith))
        (λ u l. (lanes-same b a (set_place z u) 1 (λ j h. create_far (set_place z u + j * 1) (omega arith) (omega arith)), create_far (set_chunk z u) (omega arith) (omega arith))) i;
    home = home_same z a b (λ u l. create_far (home z u) (omega (arith, can.left)) (omega arith)) i;
    keys = keys-put z a b next x can.left create_key (λ j l n. create_far (key z j) (omega arith) (omega arith)) i;
    mode = mode_same z a b (create_far (head z 5) (omega arith) (omega arith)) i;
    into = into-same z a b (create_far (head z 5) (omega arith) (omega arith)) (λ u l. create_far (into z u) (omega (arith, can.left)) (omega arith)) i;
  }
    where
      b : List ℕ
      b = create_area z a x

-- a module is listed with a chunk: the area is as long, and has one entry more
module _ (z : Sizes) (a : List ℕ) (x m : ℕ) (e : Bool) where
  pub append_length : length (append_area z a x m e) ≡ length a
  unfolding append_area
  append_length = simp length-set

  pub append_used : room z ≤ length a → cell (append_area z a x m e) (head z 4) ≡ cell a (head z 4) + 1
  unfolding append_area
  append_used long =
      let u = cell a (head z 4) in
      let a₁ = set a (entry_chunk z u) x in
      let a₂ = set a₁ (entry_module z u) m in
      let a₃ = set a₂ (head z 4) (u + 1) in
      get_or-set_other (set a₃ (home z m) x) (side z x) (head z 4) _ 0 (omega arith) ∙ get_or-set_other a₃ (home z m) (head z 4) x 0 (omega arith)
      ∙ get_or-set_same a₂ (head z 4) (u + 1) 0 (simp length-set (omega arith))

-- and each number
module _ (z : Sizes) (a : List ℕ) (x m : ℕ) (e : Bool) (can : CanAppend z a x m) where
  abbrev used : ℕ
  used = cell a (head z 4)

  abbrev a₁ : List ℕ
  a₁ = set a (entry_chunk z used) x

  abbrev a₂ : List ℕ
  a₂ = set a₁ (entry_module z used) m

  abbrev a₃ : List ℕ
  a₃ = set a₂ (head z 4) (used + 1)

  abbrev a₄ : List ℕ
  a₄ = set a₃ (home z m) x

  abbrev effect : ℕ
  effect = ind (state.yes (cell a (side z x)) || e)

  append_far : (i : ℕ) → (i ≡ entry_chunk z used → ⊥) → (i ≡ entry_module z used → ⊥) → (i ≡ head z 4 → ⊥) → (i ≡ home z m → ⊥) → (i ≡ side z x → ⊥) → cell (append_area z a x m e) i ≡ cell a i
  unfolding append_area
  append_far i n₁ n₂ n₃ n₄ n₅ =
      get_or-set_other a₄ (side z x) i effect 0 n₅ ∙ get_or-set_other a₃ (home z m) i x 0 n₄ ∙ get_or-set_other a₂ (head z 4) i (used + 1) 0 n₃
      ∙ get_or-set_other a₁ (entry_module z used) i m 0 n₂ ∙ get_or-set_other a (entry_chunk z used) i x 0 n₁

  append_side : cell (append_area z a x m e) (side z x) ≡ effect
  unfolding append_area
  append_side = get_or-set_same a₄ (side z x) effect 0 (rw (length-set, length-set, length-set, length-set) (omega (arith, can.long, can.chunk)))

  append_home : cell (append_area z a x m e) (home z m) ≡ x
  unfolding append_area
  append_home =
      get_or-set_other a₄ (side z x) (home z m) effect 0 (omega (arith, can.chunk)) ∙ get_or-set_same a₃ (home z m) x 0 (rw (length-set, length-set, length-set) (omega (arith, can.long, can.listed)))

  append_module : cell (append_area z a x m e) (entry_module z used) ≡ m
  unfolding append_area
  append_module =
      get_or-set_other a₄ (side z x) (entry_module z used) effect 0 (omega (arith, can.chunk)) ∙ get_or-set_other a₃ (home z m) (entry_module z used) x 0 (omega (arith, can.listed))
      ∙ get_or-set_other a₂ (head z 4) (entry_module z used) (used + 1) 0 (omega arith) ∙ get_or-set_same a₁ (entry_module z used) m 0 (rw length-set (omega (arith, can.long, can.left)))

  append_chunk : cell (append_area z a x m e) (entry_chunk z used) ≡ x
  unfolding append_area
  append_chunk =
      get_or-set_other a₄ (side z x) (entry_chunk z used) effect 0 (omega (arith, can.chunk)) ∙ get_or-set_other a₃ (home z m) (entry_chunk z used) x 0 (omega (arith, can.listed))
      ∙ get_or-set_other a₂ (head z 4) (entry_chunk z used) (used + 1) 0 (omega arith) ∙ get_or-set_other a₁ (entry_module z used) (entry_chunk z used) m 0 (omega (arith, can.left))
      ∙ get_or-set_same a (entry_chunk z used) x 0 (omega (arith, can.long, can.left))

  -- below the lists and beyond the side effects
  early : (i : ℕ) → i < z.chunks * z.chunks + 32 + 18 * z.chunks → (i ≡ head z 4 → ⊥) → cell (append_area z a x m e) i ≡ cell a i
  early i l n = append_far i (omega arith) (omega arith) n (omega arith) (omega arith)

module _ (z : Sizes) (a : List ℕ) (x m : ℕ) (effs : List ℕ) (can : CanAppend z a x m) where
  pub read_append : cell a (head z 3) ≤ 2 * z.chunks → read z (append_area z a x m (flag effs m)) ≡ appended effs (read z a) x m
  unfolding appended effects_in
  read_append few = λ i. record {
    initial = low (head z 0) (omega arith) (omega arith) i;
    made = low (head z 1) (omega arith) (omega arith) i;
    created = low (head z 2) (omega arith) (omega arith) i;
    depends = depends-same z a b (λ u v p q. low (u * z.chunks + v) (omega (arith, sets-room {i = u} {n = z.chunks} z.chunks p)) (omega (arith, sets-room {i = u} {n = z.chunks} z.chunks p))) i;
    effects = effects_put z a b x (effects_in z a x || e) can.chunk (rw (lt-ltb x z.chunks can.chunk) (append_side z a x m e can))
        (λ u l n. append_far z a x m e can (side z u) (omega arith) (omega arith) (omega arith) (omega arith) (omega arith)) i;
    needs = needs_same z a b (λ u l. append_far z a x m e can (need z u) (omega arith) (omega arith) (omega arith) (omega arith) (omega (arith, can.chunk))) i;
    log = log_more z a b x m (append_used z a x m e can.long)
        (λ u l. (
          append_far z a x m e can (entry_chunk z u) (omega arith) (omega (arith, can.left)) (omega arith) (omega (arith, can.listed)) (omega (arith, can.chunk)),
          append_far z a x m e can (entry_module z u) (omega (arith, can.left)) (omega arith) (omega arith) (omega (arith, can.listed)) (omega (arith, can.chunk)),
        ))
        (append_chunk z a x m e can) (append_module z a x m e can) i;
    sets = sets_same z a b (low (head z 3) (omega arith) (omega arith))
        (λ u l. (lanes-same b a (set_place z u) 1 (λ j h. low (set_place z u + j * 1) (omega arith) (omega arith)), low (set_chunk z u) (omega arith) (omega arith))) i;
    home = home-put z a b m x can.listed (append_home z a x m e can)
        (λ u l n. append_far z a x m e can (home z u) (omega arith) (omega arith) (omega arith) (omega arith) (omega (arith, can.chunk))) i;
    keys = keys-same z a b (λ u l. append_far z a x m e can (key z u) (omega arith) (omega arith) (omega arith) (omega arith) (omega (arith, can.chunk))) i;
    mode = mode_same z a b (low (head z 5) (omega arith) (omega arith)) i;
    into = into-same z a b (low (head z 5) (omega arith) (omega arith)) (λ u l. append_far z a x m e can (into z u) (omega arith) (omega arith) (omega arith) (omega arith) (omega (arith, can.chunk))) i;
  }
    where
      e : Bool
      e = flag effs m

      b : List ℕ
      b = append_area z a x m e

      low : (i : ℕ) → i < z.chunks * z.chunks + 32 + 18 * z.chunks → (i ≡ head z 4 → ⊥) → cell b i ≡ cell a i
      low = early z a x m e can

-- a chunk that needs creation is made
module _ (z : Sizes) (a : List ℕ) (v : ℕ) (can : CanOpen z a) where
  abbrev fresh : ℕ
  fresh = cell a (head z 1)

  abbrev count : ℕ
  count = cell a (head z 3)

  abbrev o₀ : List ℕ
  o₀ = set_lanes a (set_place z count) 1 v

  abbrev o₁ : List ℕ
  o₁ = set o₀ (set_chunk z count) fresh

  abbrev o₂ : List ℕ
  o₂ = set o₁ (head z 3) (count + 1)

  abbrev o₃ : List ℕ
  o₃ = set o₂ (side z fresh) 0

  abbrev o₄ : List ℕ
  o₄ = set o₃ (need z fresh) 1

  start-length : length o₀ ≡ length a
  start-length = length-set_strided a (set_place z count) 1 (parts 32 8 v)

  open_made : cell (open_area z a v) (head z 1) ≡ fresh + 1
  unfolding open_area
  open_made = get_or-set_same o₄ (head z 1) (fresh + 1) 0 (rw (length-set, length-set, length-set, length-set) (omega (arith, start-length, can.long)))

  open_need : cell (open_area z a v) (need z fresh) ≡ 1
  unfolding open_area
  open_need = get_or-set_other o₄ (head z 1) (need z fresh) (fresh + 1) 0 (omega arith) ∙ get_or-set_same o₃ (need z fresh) 1 0 (rw (length-set, length-set, length-set) (omega (arith, start-length, can.long, can.left)))

  open_side : cell (open_area z a v) (side z fresh) ≡ 0
  unfolding open_area
  open_side =
      get_or-set_other o₄ (head z 1) (side z fresh) (fresh + 1) 0 (omega arith) ∙ get_or-set_other o₃ (need z fresh) (side z fresh) 1 0 (omega (arith, can.left))
      ∙ get_or-set_same o₂ (side z fresh) 0 0 (rw (length-set, length-set) (omega (arith, start-length, can.long, can.left)))

  pub open_count : cell (open_area z a v) (head z 3) ≡ count + 1
  unfolding open_area
  open_count =
      get_or-set_other o₄ (head z 1) (head z 3) (fresh + 1) 0 (omega arith) ∙ get_or-set_other o₃ (need z fresh) (head z 3) 1 0 (omega arith) ∙ get_or-set_other o₂ (side z fresh) (head z 3) 0 0 (omega arith)
      ∙ get_or-set_same o₁ (head z 3) (count + 1) 0 (rw length-set (omega (arith, start-length, can.long)))

  open_chunk : cell (open_area z a v) (set_chunk z count) ≡ fresh
  unfolding open_area
  open_chunk =
      get_or-set_other o₄ (head z 1) (set_chunk z count) (fresh + 1) 0 (omega arith) ∙ get_or-set_other o₃ (need z fresh) (set_chunk z count) 1 0 (omega (arith, can.few))
      ∙ get_or-set_other o₂ (side z fresh) (set_chunk z count) 0 0 (omega (arith, can.few)) ∙ get_or-set_other o₁ (head z 3) (set_chunk z count) (count + 1) 0 (omega arith)
      ∙ get_or-set_same o₀ (set_chunk z count) fresh 0 (omega (arith, start-length, can.long, can.few))

  -- the eight words of the new set
  open_word : (j : ℕ) → j < 8 → cell (open_area z a v) (set_place z count + j * 1) ≡ cell o₀ (set_place z count + j * 1)
  unfolding open_area
  open_word j h =
      let i = set_place z count + j * 1 in
      get_or-set_other o₄ (head z 1) i (fresh + 1) 0 (omega arith) ∙ get_or-set_other o₃ (need z fresh) i 1 0 (omega (arith, can.few)) ∙ get_or-set_other o₂ (side z fresh) i 0 0 (omega (arith, can.few))
      ∙ get_or-set_other o₁ (head z 3) i (count + 1) 0 (omega arith) ∙ get_or-set_other o₀ (set_chunk z count) i fresh 0 (omega (arith, can.few))

  open_set : v < 2 ^ 256 → lanes (open_area z a v) (set_place z count) 1 ≡ v
  open_set h = lanes-same (open_area z a v) o₀ (set_place z count) 1 open_word ∙ lanes-set a (set_place z count) 1 v (omega arith) (omega (arith, can.long, can.few)) h

module _ (z : Sizes) (a : List ℕ) (v : ℕ) (can : CanOpen z a) where
  pub read_open : v < 2 ^ 256 → read z (open_area z a v) ≡ opened (read z a) v
  unfolding opened
  read_open h = λ i. record {
    initial = far (head z 0) (omega arith) (omega arith) (omega arith) i;
    made = open_made z a v can i;
    created = far (head z 2) (omega arith) (omega arith) (omega arith) i;
    depends = depends-same z a b (λ x y p q. low x y p q) i;
    effects = effects_put z a b n false can.left (open_side z a v can) (λ x l q. away (side z x) (omega arith) (omega (arith, can.left)) (omega (arith, can.left))) i;
    needs = needs_put z a b n true can.left (open_need z a v can) (λ x l q. away (need z x) (omega arith) (omega (arith, can.left)) (omega arith)) i;
    log = log_same z a b (far (head z 4) (omega arith) (omega arith) (omega arith))
        (λ x l. (away (entry_chunk z x) (omega arith) (omega (arith, can.left)) (omega (arith, can.left)), away (entry_module z x) (omega arith) (omega (arith, can.left)) (omega (arith, can.left)))) i;
    sets = sets_more z a b v n (open_count z a v can) (λ x l. (lanes-same b a (set_place z x) 1 (λ j k. word x l j k), chunk x l)) (open_set z a v can h) (open_chunk z a v can) i;
    home = home_same z a b (λ x l. away (home z x) (omega arith) (omega (arith, can.left)) (omega (arith, can.left))) i;
    keys = keys-same z a b (λ x l. away (key z x) (omega arith) (omega (arith, can.left)) (omega (arith, can.left))) i;
    mode = mode_same z a b (far (head z 5) (omega arith) (omega arith) (omega arith)) i;
    into = into-same z a b (far (head z 5) (omega arith) (omega arith) (omega arith)) (λ x l. away (into z x) (omega arith) (omega (arith, can.left)) (omega (arith, can.left))) i;
  }
    where
      b : List ℕ
      b = open_area z a v

      n : ℕ
      n = cell a (head z 1)

      s : ℕ
      s = cell a (head z 3)

      -- numbers of the flags and of the header
      far : (i : ℕ) → i < z.chunks * z.chunks + 32 → (i ≡ head z 3 → ⊥) → (i ≡ head z 1 → ⊥) → cell b i ≡ cell a i
      far i l p q = open_far z a v i (λ j k. omega arith) (omega arith) p (omega arith) (omega arith) q

      low : (x y : ℕ) → x < z.chunks → y < z.chunks → cell b (x * z.chunks + y) ≡ cell a (x * z.chunks + y)
      low x y p q = let r = sets-room {i = x} {n = z.chunks} z.chunks p in far (x * z.chunks + y) (omega arith) (omega arith) (omega arith)

      -- numbers after the sets
      away : (i : ℕ) → z.chunks * z.chunks + 32 + 18 * z.chunks ≤ i → (i ≡ side z n → ⊥) → (i ≡ need z n → ⊥) → cell b i ≡ cell a i
      away i l p q = open_far z a v i (λ j k. omega (arith, can.few)) (omega (arith, can.few)) (omega arith) p q (omega arith)

      word : (x : ℕ) → x < s → (j : ℕ) → j < 8 → cell b (set_place z x + j * 1) ≡ cell a (set_place z x + j * 1)
      word x l j k = open_far z a v (set_place z x + j * 1) (λ i h. omega arith) (omega (arith, can.few)) (omega arith) (omega (arith, can.few)) (omega (arith, can.few)) (omega arith)

      chunk : (x : ℕ) → x < s → cell b (set_chunk z x) ≡ cell a (set_chunk z x)
      chunk x l = open_far z a v (set_chunk z x) (λ j k. omega (arith, can.few)) (omega arith) (omega arith) (omega (arith, can.few)) (omega (arith, can.few)) (omega arith)

-- `init_module_assignment`
module _ (z : Sizes) (a : List ℕ) (m v : ℕ) (effs : List ℕ) (can : CanAssign z a m (chunk_of v (sets-in z a))) where
  abbrev found : ℕ
  found = chunk_of v (sets-in z a)

  old : (found ≡ None → ⊥) → CanAppend z a found m
  old n = record { within = can.within; long = can.long; chunk = can.chunk n; listed = can.listed; left = can.left }

  new : found ≡ None → CanOpen z a
  new n = record { within = can.within; long = can.long; left = (can.room n).0; few = (can.room n).1 }

  later : (n : found ≡ None) → CanAppend z (open_area z a v) (cell a (head z 1)) m
  later n = open_append z a v m (new n) can.listed can.left

  pub read_init : v < 2 ^ 256 → cell a (head z 3) ≤ 2 * z.chunks → read z (init_area z a m v (flag effs m) found) ≡ assigned_to effs (read z a) m v
  unfolding init_area assigned_to
  read_init h few = go (eqb found None) refl
    where
      go : (t : Bool) → eqb found None ≡ t
          → read z (cond t (append_area z (open_area z a v) (cell a (head z 1)) m (flag effs m)) (append_area z a found m (flag effs m)))
          ≡ cond t (appended effs (opened (read z a) v) (cell a (head z 1)) m) (appended effs (read z a) found m)
      go true q =
          let n = eqb-true found None q in
          read_append z (open_area z a v) (cell a (head z 1)) m effs (later n) (omega (arith, open_count z a v (new n), (new n).few))
          ∙ ap (λ g. appended effs g (cell a (head z 1)) m) (read_open z a v (new n) h)
      go false q = read_append z a found m effs (old (eqb-false found None q)) few

  pub init_length : (e : Bool) → length (init_area z a m v e found) ≡ length a
  unfolding init_area
  init_length e = go (eqb found None) refl
    where
      go : (t : Bool) → eqb found None ≡ t → length (cond t (append_area z (open_area z a v) (cell a (head z 1)) m e) (append_area z a found m e)) ≡ length a
      go true q = append_length z (open_area z a v) (cell a (head z 1)) m e ∙ open_length z a v
      go false q = append_length z a found m e
