-- What opening a chunk and adding links keep of an area. Assumes nothing.
use Prim.Native.Nat.{ℕ, zero, suc, ◌+◌, ◌-◌, ◌*◌, ◌<◌, ◌≤◌}
use Rattle.std.proofs.Common.{add-one, arith, ◌∙◌, eq-eqb, ne_eqb}
use Rattle.std.specs.Prelude.{◌≡◌, refl, Bool, true, false, cond, ◌||◌, List, length, eqb}
use Rattle.std.proofs.Math.ListN.{get_or, set, length-set}
use Rattle.std.proofs.Math.Seq.{get_or-set_other}
use Rattle.std.proofs.lemmas.Bool.{eqb-false}
use Rattle.graphs.specs.Bools.{or_false_left}
use Rattle.entry_set.specs.Joined.{parts}
use Rattle.entry_set.specs.JoinedLaws.{length-parts}
use Rattle.entry_set.specs.Lanes.{set_lanes}
use Rattle.entry_set.specs.LaneLaws.{length-set_strided, set_strided-other}
use Rattle.entry_set.specs.SetLaws.{sets-room}
use Rattle.merge_state.specs.declared.Sizes.{Sizes}
use Rattle.merge_state.specs.State.{None}
use Rattle.merge_area.specs.Layout.{cell, head, set_place, set_chunk, side, need, home, entry_chunk, entry_module}
use Rattle.merge_area.specs.Writes.{append_area, open_area, init_area, link, linked, calc_area}
use Rattle.merge_laws.specs.Can.{CanAppend, CanOpen, CanLink, CanLinked, CanCalc}

-- opening a chunk
module _ (z : Sizes) (a : List ℕ) (v : ℕ) where
  pub open_length : length (open_area z a v) ≡ length a
  unfolding open_area
  open_length = simp length-set (length-set_strided a (set_place z (cell a (head z 3))) 1 (parts 32 8 v))

  -- a number that isn't written stays
  pub open_far : (i : ℕ) → ((j : ℕ) → j < 8 → i ≡ set_place z (cell a (head z 3)) + j * 1 → ⊥) → (i ≡ set_chunk z (cell a (head z 3)) → ⊥) → (i ≡ head z 3 → ⊥)
      → (i ≡ side z (cell a (head z 1)) → ⊥) → (i ≡ need z (cell a (head z 1)) → ⊥) → (i ≡ head z 1 → ⊥) → cell (open_area z a v) i ≡ cell a i
  unfolding open_area
  open_far i p q r s t u =
      let n = cell a (head z 1) in
      let k = cell a (head z 3) in
      let a₀ = set_lanes a (set_place z k) 1 v in
      let a₁ = set a₀ (set_chunk z k) n in
      let a₂ = set a₁ (head z 3) (k + 1) in
      let a₃ = set a₂ (side z n) 0 in
      let a₄ = set a₃ (need z n) 1 in
      get_or-set_other a₄ (head z 1) i (n + 1) 0 u ∙ get_or-set_other a₃ (need z n) i 1 0 t ∙ get_or-set_other a₂ (side z n) i 0 0 s ∙ get_or-set_other a₁ (head z 3) i (k + 1) 0 r
      ∙ get_or-set_other a₀ (set_chunk z k) i n 0 q ∙ set_strided-other a (set_place z k) 1 (parts 32 8 v) i (λ j h. p j (omega (arith, h, length-parts 32 8 v)))

  pub open_append : (m : ℕ) → CanOpen z a → m < z.modules → cell a (head z 4) < z.entries → CanAppend z (open_area z a v) (cell a (head z 1)) m
  open_append m o h l =
      record {
        within = o.within;
        long = omega (arith, o.long, open_length);
        chunk = o.left;
        listed = h;
        left = omega (arith, open_far (head z 4) (λ j b. omega arith) (omega arith) (omega arith) (omega arith) (omega arith) (omega arith));
      }

-- `init_module_assignment`, by the chunk found
module _ (z : Sizes) (a : List ℕ) (m v x : ℕ) (e : Bool) where
  pub init_new : {n : ℕ} {o b : List ℕ} → x ≡ None → n ≡ cell a (head z 1) → o ≡ open_area z a v → b ≡ append_area z o n m e → b ≡ init_area z a m v e x
  unfolding init_area
  init_new h p q r = rw (eq-eqb x None h, ← p, ← q) r

  pub init_old : {b : List ℕ} → (x ≡ None → ⊥) → b ≡ append_area z a x m e → b ≡ init_area z a m v e x
  unfolding init_area
  init_old h r = rw (ne_eqb x None h) r

-- b is a but for numbers of the flags
pub record Kept (z : Sizes) (a b : List ℕ) : Type 0 where
  pub same : length b ≡ length a
  pub beyond : (i : ℕ) → z.chunks * z.chunks ≤ i → cell b i ≡ cell a i

pub kept-all : {z : Sizes} {a : List ℕ} → Kept z a a
kept-all = record { same = refl; beyond = λ i h. refl }

pub kept-twice : {z : Sizes} {a b c : List ℕ} → Kept z a b → Kept z b c → Kept z a c
kept-twice p q = record { same = q.same ∙ p.same; beyond = λ i h. q.beyond i h ∙ p.beyond i h }

link-kept : (z : Sizes) (a : List ℕ) (x y : ℕ) → CanLink z a x y → Kept z a (link z a x y)
unfolding link
link-kept z a x y can = go (eqb y None || eqb x y) refl
  where
    go : (t : Bool) → (eqb y None || eqb x y) ≡ t → Kept z a (cond t a (set a (x * z.chunks + y) 1))
    go true q = kept-all
    go false q =
        let to : y < z.chunks = can.to (eqb-false y None (or_false_left (eqb y None) _ q)) in
        record {
          same = simp length-set;
          beyond = λ i h. get_or-set_other a (x * z.chunks + y) i 1 0 (omega (arith, sets-room {i = x} {n = z.chunks} z.chunks can.from));
        }

module _ (z : Sizes) (deps : List ℕ) (x from : ℕ) (a : List ℕ) (n : ℕ) (can : CanLinked z a deps x from n) where
  -- the next link may be added
  next-link : (r : List ℕ) → Kept z a r → (j : ℕ) → j < n → CanLink z r x (cell r (home z (get_or deps (from + j) 0)))
  next-link r k j h =
      let m = get_or deps (from + j) 0 in
      let mm : m < z.modules = can.modules (from + j) (omega (arith, can.part)) in
      let e = k.beyond (home z m) (omega arith) in
      record { within = can.within; long = omega (arith, k.same, can.long); from = can.chunk; to = λ q. rw e (can.homed m mm (λ w. q (e ∙ w))) }

  linked-kept : (j : ℕ) → j ≤ n → Kept z a (linked z deps x from a j)
  unfolding linked
  linked-kept zero h = kept-all
  linked-kept (suc j) h =
      let r = linked z deps x from a j in
      let k = linked-kept j (omega arith) in
      kept-twice k (link-kept z r x (cell r (home z (get_or deps (from + j) 0))) (next-link r k j (omega arith)))

  pub linked_can : (r : List ℕ) (j : ℕ) → r ≡ linked z deps x from a j → j < n → CanLink z r x (cell r (home z (get_or deps (from + j) 0)))
  linked_can r j e h = rw e (next-link (linked z deps x from a j) (linked-kept j (omega arith)) j h)

  pub linked_long : (r : List ℕ) (j : ℕ) → r ≡ linked z deps x from a j → j ≤ n → length r ≡ length a
  linked_long r j e h = rw e (linked-kept j h).same

  pub linked-all : Kept z a (linked z deps x from a n)
  linked-all = linked-kept n (omega arith)

pub linked-none : (z : Sizes) (deps : List ℕ) (x from : ℕ) (a : List ℕ) → a ≡ linked z deps x from a 0
unfolding linked
linked-none z deps x from a = refl

pub linked-more : (z : Sizes) (deps : List ℕ) (x from : ℕ) (a : List ℕ) (j : ℕ) {r b : List ℕ} → r ≡ linked z deps x from a j → b ≡ link z r x (cell r (home z (get_or deps (from + j) 0))) → b ≡ linked z deps x from a (j + 1)
unfolding linked
linked-more z deps x from a j e q = rw (add-one j, ← e) q

module _ (z : Sizes) (starts deps a : List ℕ) (used : ℕ) (can : CanCalc z a starts deps used) where
  -- the next entry's links may be added
  next-entry : (r : List ℕ) → Kept z a r → (i : ℕ) → i < used
      → CanLinked z r deps (cell r (entry_chunk z i)) (get_or starts (cell r (entry_module z i)) 0) (get_or starts (cell r (entry_module z i) + 1) 0 - get_or starts (cell r (entry_module z i)) 0)
  next-entry r k i h =
      let e = k.beyond (entry_module z i) (omega arith) in
      let f = k.beyond (entry_chunk z i) (omega arith) in
      let m = cell a (entry_module z i) in
      rw (e, f) (record {
        within = can.within;
        long = omega (arith, k.same, can.long);
        chunk = can.chunks i h;
        homed = λ y b q. rw (k.beyond (home z y) (omega arith)) (can.homed y b (λ w. q (k.beyond (home z y) (omega arith) ∙ w)));
        part = omega (arith, can.rising m (can.listed i h), can.ends (m + 1) (omega (arith, can.listed i h)));
        modules = can.modules;
      })

  calc_kept : (i : ℕ) → i ≤ used → Kept z a (calc_area z starts deps a i)
  unfolding calc_area
  calc_kept zero h = kept-all
  calc_kept (suc i) h =
      let r = calc_area z starts deps a i in
      let k = calc_kept i (omega arith) in
      let m = cell r (entry_module z i) in
      kept-twice k (linked-all z deps (cell r (entry_chunk z i)) (get_or starts m 0) r (get_or starts (m + 1) 0 - get_or starts m 0) (next-entry r k i (omega arith)))

  pub calc_can : (r : List ℕ) (i : ℕ) → r ≡ calc_area z starts deps a i → i < used
      → CanLinked z r deps (cell r (entry_chunk z i)) (get_or starts (cell r (entry_module z i)) 0) (get_or starts (cell r (entry_module z i) + 1) 0 - get_or starts (cell r (entry_module z i)) 0)
  calc_can r i e h = rw e (next-entry (calc_area z starts deps a i) (calc_kept i (omega arith)) i h)

  pub calc_same : (r : List ℕ) (i : ℕ) → r ≡ calc_area z starts deps a i → i ≤ used → Kept z a r
  calc_same r i e h = rw e (calc_kept i h)

  -- the entry's module, and its starts
  pub calc_module : (r : List ℕ) (i : ℕ) → r ≡ calc_area z starts deps a i → i < used
      → (cell r (entry_module z i) < z.modules) × (get_or starts (cell r (entry_module z i)) 0 ≤ get_or starts (cell r (entry_module z i) + 1) 0)
  calc_module r i e h = let k = calc_same r i e (omega arith) in let f = k.beyond (entry_module z i) (omega arith) in rw f (can.listed i h, can.rising (cell a (entry_module z i)) (can.listed i h))

pub calc_none : (z : Sizes) (starts deps a : List ℕ) → a ≡ calc_area z starts deps a 0
unfolding calc_area
calc_none z starts deps a = refl

pub calc_more : (z : Sizes) (starts deps a : List ℕ) (i : ℕ) {r b : List ℕ} → r ≡ calc_area z starts deps a i
    → b ≡ linked z deps (cell r (entry_chunk z i)) (get_or starts (cell r (entry_module z i)) 0) r (get_or starts (cell r (entry_module z i) + 1) 0 - get_or starts (cell r (entry_module z i)) 0)
    → b ≡ calc_area z starts deps a (i + 1)
unfolding calc_area
calc_more z starts deps a i e q = rw (add-one i, ← e) q
