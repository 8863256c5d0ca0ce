-- Slots grouped by target have the neighbour lists of the graph turned round; a graph with no cycle has no flag set. Assumes nothing.
use Prim.Native.Nat.{ℕ, zero, suc, ◌+◌, ◌-◌, ◌<◌}
use native.Mathlib.Omega.{arith}
use native.Mathlib.Decide.{dec_lt}
use mathlib.Core.Path.{◌≡◌, refl, sym, ap, ◌∙◌, fun_ext}
use mathlib.Core.Bool.{Bool, false, cond}
use mathlib.Core.List.{List, ◌++◌}
use lib.Dec.{ltb}
use lib.ListN.{get_or, length, replicate, drop, length-replicate}
use lib.Seq.{get_or-drop, get_or-append-add}
use borrow.Author.Tests.{lt-ltb, le-ltb}
use Rattle.graphs.specs.Count.{ind}
use Rattle.graphs.specs.Lists.{below}
use Rattle.graphs.specs.Slots.{slot_edge}
use Rattle.graphs.specs.SlotLaws.{slot-turned}
use Rattle.graphs.specs.Tab.{is_tab}
use Rattle.graphs.specs.Walk.{cyclic, only}
use Rattle.graphs.specs.Walks.{acyclic_none}
use Rattle.graph_neighbours.specs.Lists.{edge}
use Rattle.graph_neighbours.specs.Steps.{Grouped}
use Rattle.graph_components.specs.Components.{turn}
use Rattle.graph_components.specs.Only.{flagged, CanFlagOnly}
use Rattle.graph_slots.specs.Asked.{Slots, ListRoom, CanFlagFrom}
use Rattle.graph_slots.specs.Listing.{slot-lists}

turned_slots : {s t : List ℕ} {m n : ℕ} → Slots s t m n → Slots t s m n
turned_slots v = record { slots = v.slots; sources = v.targets; targets = v.sources; ends = record { source = v.ends.target; target = v.ends.source }; nodes = v.nodes }

module _ {s t : List ℕ} {m n : ℕ} {heads list order label stack flags : List ℕ} (can : CanFlagFrom s t m n heads list order label stack flags) {l out : List ℕ} (long : length l ≡ 1025) (wide : length out ≡ 8448) where
  room : ListRoom m n l out
  room = record { rows = omega (arith, can.lists.slots.nodes); room = omega (arith, can.lists.slots.slots); short = omega arith }

  module _ {l' out' : List ℕ} (g : Grouped t s m n l l' out out') where
    pub only_can : CanFlagOnly heads list l' out' n order label stack flags
    only_can =
        let back = slot-lists (turned_slots can.lists.slots) room g in
        record {
          graph = can.lists.graph;
          turned = back.graph;
          same = can.lists.same ∙ fun_ext (λ x. fun_ext (λ y. sym (slot-turned s t m x y))) ∙ sym (ap (λ (f : ℕ → ℕ → Bool). turn f) back.same);
          ordered = can.ordered;
          places = can.orders;
          cells = can.labels;
          space = can.places;
          small = omega (arith, can.lists.slots.nodes);
          room = can.room;
        }

    -- the flags of the lists' graph are those of the slots'
    pub only_slots : {r : List ℕ} → r ≡ flagged (edge heads list n) n flags → r ≡ flagged (slot_edge s t m) n flags
    only_slots q = q ∙ ap (λ (f : ℕ → ℕ → Bool). flagged f n flags) can.lists.same

-- n zeros, and a list behind them
zeros : (n : ℕ) (r : List ℕ) (x : ℕ) → x < n → get_or (replicate n 0 ++ r) x 0 ≡ 0
zeros zero r x b = absurd (omega arith)
zeros (suc n) r zero b = refl
zeros (suc n) r (suc x) b = zeros n r x (omega arith)

-- no node of a graph with no cycle is flagged
pub none-flagged : (e : ℕ → ℕ → Bool) (n : ℕ) (l l' : List ℕ) → cyclic e (below n) ≡ false → l' ≡ replicate n 0 ++ drop n l → length l' ≡ length l → l' ≡ flagged e n l
unfolding flagged
none-flagged e n l l' q h k = is_tab l' (length l) _ k (λ x _. ap (λ (w : List ℕ). get_or w x 0) h ∙ go x (dec_lt x n))
  where
    far : (x : ℕ) → (x < n → ⊥) → x ≡ length (replicate {A = ℕ} n 0) + (x - n)
    far x z = omega (arith, length-replicate {A = ℕ} n 0)

    go : (x : ℕ) → Dec (x < n) → get_or (replicate n 0 ++ drop n l) x 0 ≡ cond (ltb x n) (ind (only e (below n) x)) (get_or l x 0)
    go x (yes z) = rw (lt-ltb x n z) (zeros n (drop n l) x z ∙ sym (ap ind (acyclic_none e n x q z)))
    go x (no z) = rw (le-ltb x n (omega arith)) (ap (λ (i : ℕ). get_or (replicate n 0 ++ drop n l) i 0) (far x z) ∙ get_or-append-add (replicate n 0) (drop n l) (x - n) 0 ∙ get_or-drop n l (x - n) 0 ∙ ap (λ (i : ℕ). get_or l i 0) (omega arith))
