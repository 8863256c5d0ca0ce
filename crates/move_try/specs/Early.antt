-- Step 1, the target's node and its place, by the area's numbers. Assumes nothing.
use Rattle.std.specs.Prelude.{◌≡◌, refl, Bool, true, false, not, ◌&&◌, List, ℕ, ◌+◌, ◌*◌, ◌≤◌, ◌<◌, eqb, ltb, length, get_or}
use Rattle.std.proofs.Common.{sym, ap, ap₂, subst, ◌∙◌, true≢false, arith, eq-eqb, ne_eqb, lt-ltb, le-ltb}
use Rattle.std.proofs.Math.Bool.{cond}
use Rattle.std.proofs.Math.Decide.{ℕ_discrete, dec_lt}
use Rattle.std.proofs.lemmas.Bool.{not-true}
use Rattle.graphs.specs.Bools.{fails}
use Rattle.graphs.specs.Count.{ind}
use Rattle.graphs.specs.Lists.{has, below, has-at, has-place}
use Rattle.graphs.specs.Walk.{cyclic, only}
use Rattle.entry_set.specs.Lanes.{lanes}
use Rattle.move_ledger.specs.Graph.{Load, at, members, occupied}
use Rattle.move_ledger.specs.Ledger.{index, smallest_empty, free_place, register, step1}
use Rattle.move_ledger.specs.Places.{Apart, index-has, put-there, put_same}
use Rattle.move_ledger.specs.Evict.{Smallest, smallest, some_empty, place-free, register-old, register-new}
use Rattle.move_ledger.proofs.Evict.{registered}
use Rattle.move_ledger.specs.Nodes.{placed, node_edge}
use Rattle.move_ledger.specs.NodeLaws.{members-nodes}
use Rattle.move_ledger.specs.NodePlaces.{placing_apart}
use Rattle.move_ledger.proofs.NodeMoves.{step1-nodes}
use Rattle.set_order.specs.Order.{lane_set, First}
use Rattle.move_places.specs.Least.{empty, Least}
use Rattle.move_area.specs.Bodies.{lane_at, atom_at}
use Rattle.move_area.specs.NodeBodies.{Nodes}
use Rattle.move_try.specs.Stands.{Stands, acyclic_at, component_at, count_at, node_at, set_at}
use Rattle.move_try.specs.Settle.{flag_tells}

flag-none : (t : Bool) → eqb (ind t) 0 ≡ not t
flag-none true = refl
flag-none false = refl

-- the place of a set that has the node `node`: that one, or the smallest empty one where it is none of n
pub record Place (area : List ℕ) (n node x : ℕ) : Type 0 where
  pub own : node < n → x ≡ node
  pub given : n ≤ node → Least (lane_set area (n * n + 24) n) (empty area (n * n + 24 + 8 * n)) n n x

module _ {load : Load} {N : ℕ} {s : Nodes} {l₀ l : List ℕ} (v : Stands load N s l₀ l) where
  -- step 1 for atom a in node x
  pub outside-step1 : (a x : ℕ) → a < load.A → x ≡ get_or l (atom_at N + a) 0
      → (eqb (get_or l (N * N + 2) 0) 0 && eqb (get_or l (lane_at N 10 + x) 0) 0) ≡ step1 load (placed s.nodes s.sets) a
  outside-step1 a x h e =
      let q : x ≡ at s.nodes a = e ∙ node_at v a h in
      let b : x < N = omega (arith, v.placing.inside a h, v.few) in
      ap₂ (λ i j. eqb i 0 && eqb j 0) (acyclic_at v) (component_at v x b)
      ∙ ap₂ ◌&&◌ (flag_tells (cyclic (node_edge load s.nodes s.sets) (below N))) (flag-none (only (node_edge load s.nodes s.sets) (below N) x))
      ∙ ap (λ i. cyclic (node_edge load s.nodes s.sets) (below N) && not (only (node_edge load s.nodes s.sets) (below N) i)) q
      ∙ sym (step1-nodes v.order v.placing a N h v.few)

  abbrev place : List ℕ
  place = placed s.nodes s.sets

  -- a node's count tells whether its set is empty
  node_empty : (i : ℕ) → i < length s.sets → empty l (N * N + 24 + 8 * N) i ≡ not (occupied load place (at s.sets i))
  node_empty i h =
      ap (λ k. eqb k 0) (count_at v i (omega (arith, v.few)) ∙ members-nodes v.placing i h) ∙ zero-not (members load place (at s.sets i))
    where
      zero-not : (k : ℕ) → eqb k 0 ≡ not (ltb 0 k)
      zero-not k = go (ℕ_discrete k 0)
        where
          go : Dec (k ≡ 0) → eqb k 0 ≡ not (ltb 0 k)
          go (yes e) = rw (eq-eqb k 0 e, le-ltb 0 k (omega arith)) refl
          go (no d) = rw (ne_eqb k 0 d, lt-ltb 0 k (omega arith)) refl

  apart : Apart s.sets
  apart = placing_apart v.placing

  -- where every node has a set, some node has no atom
  pub free-node : load.A < N → length s.sets ≡ N → (x : ℕ) × (x < N) × (empty l (N * N + 24 + 8 * N) x ≡ true)
  free-node more full =
      let some = some_empty s.sets apart load place (omega arith) in
      (some.0, omega (arith, some.1), node_empty some.0 some.1 ∙ ap not some.2)

  -- the target's node y among the registered ones
  module _ (T y : ℕ) (f : First (lane_set l (N * N + 24) N) (length s.sets) T y) where
    key : (x : ℕ) → x < length s.sets → lane_set l (N * N + 24) N x ≡ at s.sets x
    key x h = let e : N * N + 24 + x ≡ lane_at N 0 + x = omega arith in ap (λ i. lanes l i N) e ∙ set_at v x h

    pub target-seen : y < length s.sets → has T s.sets ≡ true
    target-seen h = subst (λ X. has X s.sets ≡ true) (sym (key y h) ∙ f.is h) (has-at s.sets y h)

    pub target_unseen : y ≡ length s.sets → has T s.sets ≡ false
    target_unseen e =
        fails _ (λ q. let r = has-place T s.sets q in f.none r.0 (omega (arith, r.1)) (key r.0 r.1 ∙ r.2))

    pub target-new : eqb y (length s.sets) ≡ not (has T s.sets)
    target-new = go (dec_lt y (length s.sets))
      where
        go : Dec (y < length s.sets) → eqb y (length s.sets) ≡ not (has T s.sets)
        go (yes h) = rw (target-seen h) (ne_eqb y (length s.sets) (omega arith))
        go (no h) = let e : y ≡ length s.sets = omega (arith, f.most) in rw (target_unseen e) (eq-eqb y (length s.sets) e)

    -- its place x
    module _ (more : load.A < N) (x : ℕ) (p : Place l N y x) where
      -- where all are taken, the scan finds the smallest empty set
      evicted : length s.sets ≡ N → Least (lane_set l (N * N + 24) N) (empty l (N * N + 24 + 8 * N)) N N x → x ≡ index (smallest_empty load place s.sets) s.sets
      evicted full scan = go (ℕ_discrete x N)
        where
          some : (i : ℕ) × (i < length s.sets) × (occupied load place (at s.sets i) ≡ false)
          some = some_empty s.sets apart load place (omega arith)

          S : Smallest load place s.sets (smallest_empty load place s.sets)
          S = smallest load place s.sets (at s.sets some.0) (has-at s.sets some.0 some.1) some.2

          i : (index (smallest_empty load place s.sets) s.sets < length s.sets) × (at s.sets (index (smallest_empty load place s.sets) s.sets) ≡ smallest_empty load place s.sets)
          i = index-has (smallest_empty load place s.sets) s.sets S.there

          go : Dec (x ≡ N) → x ≡ index (smallest_empty load place s.sets) s.sets
          go (yes e) = absurd (true≢false (sym (node_empty some.0 some.1 ∙ ap not some.2) ∙ scan.none e some.0 (omega (arith, some.1))))
          go (no d) =
              let b : x < N = omega (arith, scan.within) in
              let c : x < length s.sets = omega arith in
              let none : occupied load place (at s.sets x) ≡ false = not-true _ (sym (node_empty x c) ∙ (scan.passes b).1) in
              let k = i.0 in
              let low = scan.least b (index (smallest_empty load place s.sets) s.sets) (omega arith) (node_empty _ i.0 ∙ ap not (ap (occupied load place) i.1 ∙ S.empty)) in
              let up = S.least (at s.sets x) (has-at s.sets x c) none in
              v.placing.distinct x _ c i.0 (omega (arith, low, up, key x c, key _ i.0, i.1))

      pub place_is : y ≡ length s.sets → x ≡ free_place load N place s.sets
      unfolding free_place
      place_is e = go (dec_lt (length s.sets) N)
        where
          go : Dec (length s.sets < N) → x ≡ cond (ltb (length s.sets) N) (length s.sets) (index (smallest_empty load place s.sets) s.sets)
          go (yes h) = rw (lt-ltb (length s.sets) N h) (p.own (omega arith) ∙ e)
          go (no h) = rw (le-ltb (length s.sets) N (omega arith)) (evicted (omega (arith, v.few)) (p.given (omega arith)))

      -- once it is registered
      pub target_node : (x < length (register load N place T s.sets)) × (at (register load N place T s.sets) x ≡ T)
      target_node = go (dec_lt y (length s.sets))
        where
          go : Dec (y < length s.sets) → (x < length (register load N place T s.sets)) × (at (register load N place T s.sets) x ≡ T)
          go (yes h) =
              rw (register-old load N place T s.sets (target-seen h), p.own (omega (arith, v.few)))
              (h, sym (key y h) ∙ f.is h)
          go (no h) =
              let e : y ≡ length s.sets = omega (arith, f.most) in
              let w = (place-free load N place s.sets apart v.few more).within in
              rw (register-new load N place T s.sets (target_unseen e), place_is e)
              (put-there (free_place load N place s.sets) T s.sets w, put_same (free_place load N place s.sets) T s.sets w)

      -- and it is a node
      pub place-below : x < N
      place-below = omega (arith, target_node.0, (registered load N place s.sets apart v.few more T).few)
