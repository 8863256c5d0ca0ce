-- Step 3's test: what is asked for it, its answer, and the marks that it leaves. Assumes nothing.
use Rattle.std.specs.Prelude.{◌≡◌, refl, Bool, true, false, cond, ℕ, ◌+◌, ◌-◌, ◌*◌, ◌≤◌, ◌<◌, eqb, get_or, set, replicate}
use Rattle.std.proofs.Math.Path.{ap}
use Rattle.std.proofs.Common.{ap₂, ◌∙◌, arith, eq-eqb, ne_eqb, length-set, get_or-set_other}
use mathlib.Core.List.{List}
use Rattle.std.proofs.Math.ListN.{length}
use Rattle.std.proofs.lemmas.List.{length-replicate, get_or-replicate}
use Rattle.graph_slots.specs.Asked.{Slots, SlotLists, CanMark}
use Rattle.graphs.specs.Lists.{below}
use Rattle.graphs.specs.Tab.{tab-length, tab-at}
use Rattle.graphs.specs.Walk.{via, cyclic}
use Rattle.graph_neighbours.specs.Lists.{Graph}
use Rattle.graph_walks.specs.Marks.{marking, marked}
use Rattle.layout.specs.Patch.{patch, part, part_long, part_at, patch_long, patch_in}
use Rattle.layout.specs.Lent.{put-patch}
use borrow.Rule.Slice.PartMut.{mid_of, put_mid}
use Rattle.move_area.specs.Bodies.{lane_at, atom_at}
use Rattle.move_area.specs.Calls.{last, next}
use Rattle.move_try.specs.Areas.{counter_in, raised, marks-lent}

-- the marks lane, and every mark below the counter
pub record Fresh (area : List ℕ) (n counter : ℕ) : Type 0 where
  pub room : atom_at n ≤ length area
  pub below : (x : ℕ) → x < n → get_or area (lane_at n 9 + x) 0 < counter

pub record CanMarkLane (area : List ℕ) (n counter y : ℕ) (heads list : List ℕ) : Type 0 where
  pub node : y < n
  pub nodes : n ≤ 1024
  pub graph : Graph heads list n
  pub fresh : Fresh area n counter

-- no mark is above the counter
pub record CanTest (area : List ℕ) (n y : ℕ) (s t : List ℕ) (m : ℕ) : Type 0 where
  pub ask : Slots s t m n
  pub node : y < n
  pub room : atom_at n ≤ length area
  pub low : (x : ℕ) → x < n → get_or area (lane_at n 9 + x) 0 ≤ counter_in n area

-- the area after a walk from y
unfoldable pub walk_area : (ℕ → ℕ → Bool) → ℕ → ℕ → ℕ → List ℕ → List ℕ
walk_area e n counter y l = patch (lane_at n 9) (marked e n counter y (part (lane_at n 9) n l)) l

-- the graph had a cycle before
abbrev pub was_cyclic : ℕ → List ℕ → Bool
was_cyclic n l = eqb (get_or l (n * n + 2) 0) 0

-- the answer: a full search where the graph had a cycle, else whether y reaches itself
unfoldable pub closes : (ℕ → ℕ → Bool) → ℕ → ℕ → List ℕ → Bool
closes e n y l = cond (was_cyclic n l) (cyclic e (below n)) (via e (below n) y y)

-- the area afterwards: counter and marks are left alone where the graph had a cycle
unfoldable pub tested : (ℕ → ℕ → Bool) → ℕ → ℕ → List ℕ → List ℕ
tested e n y l = cond (was_cyclic n l) l (walk_area e n (next (counter_in n l)) y (raised n l))

pub marked_long : (e : ℕ → ℕ → Bool) (n counter y : ℕ) (l : List ℕ) → length (marked e n counter y l) ≡ length l
unfolding marking
marked_long e n counter y l = tab-length _ (length l)

-- what the code reads: a node has the counter exactly where y reaches it
pub walk_marked : (e : ℕ → ℕ → Bool) (n counter y : ℕ) (l : List ℕ) (x : ℕ) → x < n → Fresh l n counter → eqb (get_or (walk_area e n counter y l) (lane_at n 9 + x) 0) counter ≡ via e (below n) y x
unfolding walk_area marking
walk_marked e n counter y l x h f =
    ap (λ k. eqb k counter)
    (patch_in (lane_at n 9) w l x (omega (arith, marked_long e n counter y (part (lane_at n 9) n l), part_long (lane_at n 9) n l)) (omega (arith, f.room))
    ∙ tab-at _ (length (part (lane_at n 9) n l)) x (omega (arith, part_long (lane_at n 9) n l)) ∙ ap (cond (via e (below n) y x) counter) (part_at (lane_at n 9) n l x h))
    ∙ go (via e (below n) y x)
  where
    w : List ℕ
    w = marked e n counter y (part (lane_at n 9) n l)

    go : (t : Bool) → eqb (cond t counter (get_or l (lane_at n 9 + x) 0)) counter ≡ t
    go true = eq-eqb counter counter refl
    go false = ne_eqb (get_or l (lane_at n 9 + x) 0) counter (λ q. omega (arith, f.below x h))

-- after the raising every mark is below the counter
pub raised_long : (n : ℕ) (l : List ℕ) → length (raised n l) ≡ length l
unfolding raised
raised_long n l = go (last (counter_in n l))
  where
    go : (t : Bool) → length (set (cond t (patch (lane_at n 9) (replicate n 0) l) l) (n * n + 1) (next (counter_in n l))) ≡ length l
    go true = simp length-set (patch_long (lane_at n 9) (replicate n 0) l)
    go false = simp length-set

pub raised_below : {area : List ℕ} {n y : ℕ} {s t : List ℕ} {m : ℕ} → CanTest area n y s t m → Fresh (raised n area) n (next (counter_in n area))
unfolding raised next
raised_below {area} {n} can = record { room = rw (raised_long n area) can.room; below = λ x h. go (last (counter_in n area)) x h }
  where
    go : (t : Bool) (x : ℕ) → x < n → get_or (set (cond t (patch (lane_at n 9) (replicate n 0) area) area) (n * n + 1) (cond t 1 (counter_in n area + 1))) (lane_at n 9 + x) 0 < cond t 1 (counter_in n area + 1)
    go true x h =
        rw (
          get_or-set_other (patch (lane_at n 9) (replicate n 0) area) (n * n + 1) (lane_at n 9 + x) 1 0 (omega arith),
          patch_in (lane_at n 9) (replicate n 0) area x (omega (arith, length-replicate {A = ℕ} n 0)) (omega (arith, can.room)),
          get_or-replicate {A = ℕ} n x 0 0 h,
        ) (omega arith)
    go false x h = rw (get_or-set_other area (n * n + 1) (lane_at n 9 + x) (counter_in n area + 1) 0 (omega arith)) (omega (arith, can.low x h))

-- the marks lane is lent to the walk, and comes back
module _ {area : List ℕ} {n counter y : ℕ} {heads list : List ℕ} (can : CanMarkLane area n counter y heads list) where
  abbrev at : ℕ
  at = lane_at n 9

  lent : mid_of at (at + n - at) area ≡ part at n area
  lent = marks-lent n area can.fresh.room

  pub mark_can : CanMark heads list n counter y (mid_of at (at + n - at) area)
  mark_can =
      record {
        graph = can.graph;
        nodes = can.nodes;
        cells = omega (arith, ap length lent, part_long at n area);
        start = can.node;
        fresh = λ x h. rw (lent, part_at at n area x h) (can.fresh.below x h);
      }

  pub mark_done : (e : ℕ → ℕ → Bool) {m : List ℕ} → m ≡ marked e n counter y (mid_of at (at + n - at) area) → put_mid at (at + n - at) area m ≡ walk_area e n counter y area
  unfolding walk_area
  mark_done e {m} q =
      let r : m ≡ marked e n counter y (part at n area) = q ∙ ap (marked e n counter y) lent in
      let long : length m ≡ at + n - at = omega (arith, ap length r, marked_long e n counter y (part at n area), part_long at n area) in
      put-patch at (at + n) area m (omega arith) (omega (arith, can.fresh.room)) long ∙ ap (λ (u : List ℕ). patch at u area) r

  -- what the code reads
  pub itself-done : (e : ℕ → ℕ → Bool) {l : List ℕ} → l ≡ walk_area e n counter y area → eqb (get_or l (lane_at n 9 + y) 0) counter ≡ via e (below n) y y
  itself-done e h = ap (λ (u : List ℕ). eqb (get_or u (lane_at n 9 + y) 0) counter) h ∙ walk_marked e n counter y area y can.node can.fresh

-- the two ways of the test
pub search_done : (e : ℕ → ℕ → Bool) (n y : ℕ) (l : List ℕ) {r : Bool} → get_or l (n * n + 2) 0 ≡ 0 → r ≡ cyclic e (below n) → (r ≡ closes e n y l) × (l ≡ tested e n y l)
unfolding closes tested
search_done e n y l h q = rw (eq-eqb _ _ h) (q, refl)

pub walk_done : (e : ℕ → ℕ → Bool) (n y : ℕ) (l : List ℕ) {l₁ l' : List ℕ} {c : ℕ} {r : Bool} → (get_or l (n * n + 2) 0 ≡ 0 → ⊥) → c ≡ next (counter_in n l) → l₁ ≡ raised n l
    → (r ≡ via e (below n) y y) × (l' ≡ walk_area e n c y l₁) → (r ≡ closes e n y l) × (l' ≡ tested e n y l)
unfolding closes tested
walk_done e n y l h c u q = rw (ne_eqb _ _ h) (q.0, q.1 ∙ ap₂ (λ k (v : List ℕ). walk_area e n k y v) c u)

pub walk_can : {area : List ℕ} {n y : ℕ} {s t : List ℕ} {m : ℕ} → CanTest area n y s t m → {heads list : List ℕ} → SlotLists s t m n heads list → {l₁ : List ℕ} {c : ℕ}
    → c ≡ next (counter_in n area) → l₁ ≡ raised n area → CanMarkLane l₁ n c y heads list
walk_can can v c u = record { node = can.node; nodes = can.ask.nodes; graph = v.graph; fresh = rw (c, u) (raised_below can) }
