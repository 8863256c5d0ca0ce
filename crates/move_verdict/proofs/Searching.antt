-- The slots of an area's placement are what the search asks for, and what it finds is the placement's verdict. Assumes nothing.
use Rattle.std.proofs.Common.{◌≡◌, ℕ, ◌≤◌, Bool, List, length, take, sym, ap, subst, ◌∙◌, arith, length-take-le}
use Rattle.std.proofs.lemmas.List.{length-replicate}
use Rattle.std.proofs.Math.ListN.{replicate}
use Rattle.graphs.specs.Lists.{below}
use Rattle.graphs.specs.Walk.{cyclic}
use Rattle.graph_neighbours.specs.Lists.{edge, Graph}
use Rattle.graph_neighbours.specs.Steps.{CanGroup, Grouped}
use Rattle.graph_slots.specs.Asked.{Slots, ListRoom, SlotLists}
use Rattle.graph_slots.specs.Listing.{group_can, slot-lists}
use Rattle.move_ledger.specs.Graph.{Load}
use Rattle.move_ledger.proofs.NodeWalks.{cyclic-nodes}
use Rattle.move_area.specs.Area.{sets_in, decode}
use Rattle.move_area.specs.Checked.{nodes_in, sets-length, ranged_placing}
use Rattle.move_slots.specs.Counted.{slot_count, Counted, counted-ends, counted_le, counted-cyclic}
use Rattle.move_slots.specs.Filled.{Filled}
use Rattle.move_verdict.specs.Verdict.{verdict, CanSearch, SearchRoom}

-- k zeros
abbrev pub zeros : ℕ → List ℕ
zeros k = replicate k 0

zeros-length : (k : ℕ) → length (zeros k) ≡ k
zeros-length k = length-replicate {A = ℕ} k 0

-- the first n of enough colours
pub first_long : {A : Type 0} (n nodes : ℕ) (white : A) → n ≤ nodes → length (take n (replicate nodes white)) ≡ n
first_long n nodes white h = length-take-le n (replicate nodes white) (rw length-replicate h)

-- the slots s, t are filled in, m of them, into lists that are long enough; l has the atom counts
module _ {load : Load} {n : ℕ} {area : List ℕ} {nodes heads slots : ℕ} (can : CanSearch load n area) (room : SearchRoom load n nodes heads slots)
    {s t l : List ℕ} {m : ℕ} (filled : Filled load n (nodes_in load n area) (sets_in n area) l s t) (many : m ≡ slot_count n load.D load.E)
    (sl : length s ≡ length (zeros slots)) (tl : length t ≡ length (zeros slots)) (ll : length l ≡ length (zeros heads)) where
  few : length (sets_in n area) ≤ n
  few = omega (arith, sets-length n area, can.ranged.few)

  counted : Counted load (nodes_in load n area) (sets_in n area) s t n m
  counted = record { order = can.loadable.order; placing = ranged_placing can.loadable.sizes.sets can.ranged; few = few; slots = filled.slots; many = many }

  listed : Slots s t m n
  listed =
      let le = counted_le counted in
      record {
        slots = omega (arith, can.loadable.sizes.entries, can.loadable.sizes.bits);
        sources = omega (arith, room.slots_long, zeros-length);
        targets = omega (arith, room.slots_long, zeros-length);
        ends = counted-ends counted;
        nodes = can.loadable.sizes.sets;
      }

  lists : ListRoom m n l (zeros slots)
  lists = let le = counted_le counted in record { rows = omega (arith, room.rows, zeros-length); room = omega (arith, room.slots_long, zeros-length); short = omega (arith, room.slots_short, zeros-length) }

  pub searched_group : CanGroup s t m n l (zeros slots)
  searched_group = group_can listed lists

  -- and grouped in l' and out, and k colours are lent, one for each node
  module _ {l' out : List ℕ} (grouped : Grouped s t m n l l' (zeros slots) out) {k : ℕ} (kl : k ≡ n) where
    both : SlotLists s t m n l' out
    both = slot-lists listed lists grouped

    pub searched_graph : Graph l' out k
    searched_graph = subst (Graph l' out) (sym kl) both.graph

    pub searched-says : {r : Bool} → r ≡ cyclic (edge l' out k) (below k) → r ≡ verdict load n area
    unfolding decode
    searched-says e =
        e ∙ ap (λ (j : ℕ). cyclic (edge l' out j) (below j)) kl ∙ ap (λ (f : ℕ → ℕ → Bool). cyclic f (below n)) both.same
        ∙ counted-cyclic counted ∙ cyclic-nodes can.loadable.order (ranged_placing can.loadable.sizes.sets can.ranged) n few
