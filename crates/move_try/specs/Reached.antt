-- What the test of step 3 leaves for counting the chunks that the moved atom's chunk reaches. Assumes nothing.
use Rattle.std.specs.Prelude.{◌≡◌, refl, Bool, cond, ℕ, ◌+◌, ◌*◌, ◌≤◌, ◌<◌, eqb, set, replicate}
use Rattle.std.proofs.Common.{sym, ap, ◌∙◌, arith, eqb-true}
use Rattle.std.proofs.Math.Bool.{true, false}
use mathlib.Core.List.{List}
use Rattle.std.proofs.Math.ListN.{length, get_or}
use Rattle.std.proofs.lemmas.List.{length-replicate, get_or-replicate}
use Rattle.std.proofs.Math.Seq.{get_or-set_same}
use Rattle.graphs.specs.Count.{ind, ind_le, count, count-more, count_le, count_ext}
use Rattle.graphs.specs.Lists.{below}
use Rattle.graphs.specs.Tab.{tab-at}
use Rattle.graphs.specs.Walk.{via}
use Rattle.graphs.specs.Slots.{slot_edge}
use Rattle.graph_neighbours.specs.Lists.{edge, Graph}
use Rattle.graph_slots.specs.Asked.{SlotLists, CanMark}
use Rattle.graph_walks.specs.Marks.{marking, marked}
use Rattle.layout.specs.Patch.{part, patch, patch_long, patch-out}
use Rattle.move_area.specs.Bodies.{lane_at, atom_at}
use Rattle.move_area.specs.Calls.{last, next}
use Rattle.move_try.specs.Areas.{counter_in, raised}
use Rattle.move_try.specs.Test.{CanTest, was_cyclic, walk_area, tested, walk_marked, raised_long, raised_below}

-- where the graph had no cycle before, the nodes that `to` reaches are those with the counter as their mark
pub record CanReach (area : List ℕ) (n to : ℕ) (heads list : List ℕ) : Type 0 where
  pub node : to < n
  pub nodes : n ≤ 1024
  pub graph : Graph heads list n
  pub room : atom_at n ≤ length area
  pub marks : (get_or area (n * n + 2) 0 ≡ 0 → ⊥) → (x : ℕ) → x < n → eqb (get_or area (lane_at n 9 + x) 0) (counter_in n area) ≡ via (edge heads list n) (below n) to x

-- one more number is looked at
pub counted : (p : ℕ → Bool) (x : ℕ) {k m : ℕ} → k ≡ count p x → m ≡ ind (p x) → (k + m ≡ count p (x + 1)) × (k + m ≤ x + 1)
counted p x h e = (omega (arith, count-more p x, h, e), omega (arith, count_le p x, ind_le (p x), h, e))

-- marks of its own: 1 on noughts
pub own_can : {heads list : List ℕ} {n to : ℕ} → Graph heads list n → n ≤ 1024 → to < n → CanMark heads list n 1 to (replicate 1024 0)
own_can g few h =
    record {
      graph = g;
      nodes = few;
      cells = omega (arith, length-replicate {A = ℕ} 1024 0);
      start = h;
      fresh = λ x b. rw (get_or-replicate {A = ℕ} 1024 x 0 0 (omega arith)) (omega arith);
    }

pub own_count : (e : ℕ → ℕ → Bool) (n to : ℕ) {m : List ℕ} → n ≤ 1024 → m ≡ marked e n 1 to (replicate 1024 0) → count (λ x. eqb (get_or m x 0) 1) n ≡ count (via e (below n) to) n
unfolding marking
own_count e n to {m} few q = count_ext _ _ n (λ x b. ap (λ (l : List ℕ). eqb (get_or l x 0) 1) q ∙ cell x b)
  where
    go : (t : Bool) → eqb (cond t 1 0) 1 ≡ t
    go true = refl
    go false = refl

    cell : (x : ℕ) → x < n → eqb (get_or (marked e n 1 to (replicate 1024 0)) x 0) 1 ≡ via e (below n) to x
    cell x b =
        ap (λ k. eqb k 1)
        (tab-at _ (length (replicate {A = ℕ} 1024 0)) x (omega (arith, length-replicate {A = ℕ} 1024 0)) ∙ ap (cond (via e (below n) to x) 1) (get_or-replicate {A = ℕ} 1024 x 0 0 (omega arith)))
        ∙ go (via e (below n) to x)

-- what the test leaves
module _ {area : List ℕ} {n to : ℕ} {s t : List ℕ} {m : ℕ} (can : CanTest area n to s t m) {heads list : List ℕ} (v : SlotLists s t m n heads list) where
  abbrev E : ℕ → ℕ → Bool
  E = slot_edge s t m

  abbrev c : ℕ
  c = next (counter_in n area)

  raised_counter : counter_in n (raised n area) ≡ c
  unfolding raised
  raised_counter = go (last (counter_in n area))
    where
      go : (t : Bool) → get_or (set (cond t (patch (lane_at n 9) (replicate n 0) area) area) (n * n + 1) c) (n * n + 1) 0 ≡ c
      go true = get_or-set_same (patch (lane_at n 9) (replicate n 0) area) (n * n + 1) c 0 (omega (arith, can.room, patch_long (lane_at n 9) (replicate n 0) area))
      go false = get_or-set_same area (n * n + 1) c 0 (omega (arith, can.room))

  walked_counter : counter_in n (walk_area E n c to (raised n area)) ≡ c
  unfolding walk_area
  walked_counter =
      patch-out (lane_at n 9) (marked E n c to (part (lane_at n 9) n (raised n area))) (raised n area) (n * n + 1) (omega (arith, can.room, raised_long n area)) (λ h. absurd (omega arith))
      ∙ raised_counter

  pub tested-reach : {l : List ℕ} → l ≡ tested E n to area → CanReach l n to heads list
  unfolding tested walk_area
  tested-reach {l} q = rw q (go (was_cyclic n area) refl)
    where
      room : (u : List ℕ) → length u ≡ length area → atom_at n ≤ length u
      room u e = omega (arith, can.room)

      go : (b : Bool) → was_cyclic n area ≡ b → CanReach (cond b area (walk_area E n c to (raised n area))) n to heads list
      go true h =
          record {
            node = can.node;
            nodes = can.ask.nodes;
            graph = v.graph;
            room = can.room;
            marks = λ d. absurd (d (eqb-true _ _ h));
          }
      go false h =
          record {
            node = can.node;
            nodes = can.ask.nodes;
            graph = v.graph;
            room = room (walk_area E n c to (raised n area)) (patch_long (lane_at n 9) (marked E n c to (part (lane_at n 9) n (raised n area))) (raised n area) ∙ raised_long n area);
            marks = λ d x b.
                ap (λ k. eqb (get_or (walk_area E n c to (raised n area)) (lane_at n 9 + x) 0) k) walked_counter
                ∙ walk_marked E n c to (raised n area) x b (raised_below can) ∙ ap (λ (f : ℕ → ℕ → Bool). via f (below n) to x) (sym v.same);
          }
