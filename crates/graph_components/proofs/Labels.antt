-- The labels as lists, from the first to the last. Assumes nothing.
use Prim.Native.Nat.{ℕ, ◌+◌, ◌<◌}
use native.Mathlib.Omega.{arith}
use mathlib.Core.Path.{◌≡◌, sym, ap}
use mathlib.Core.Logic.{inl, inr, ⊎_elim}
use mathlib.Core.Bool.{Bool, true, ◌&&◌, ◌||◌}
use mathlib.Core.List.{List}
use lib.Dec.{eqb}
use lib.ListN.{length}
use borrow.Author.Tests.{eqb-true, eq-eqb}
use Rattle.graphs.specs.Bools.{or_cases, or_left, or_right, and_left, and_right, and_both}
use Rattle.graphs.specs.Lists.{below}
use Rattle.graphs.specs.Walk.{via}
use Rattle.graphs.specs.Walks.{Sources, sources-below, sound, complete}
use Rattle.graph_neighbours.specs.Lists.{edge, listed, listed-to}
use Rattle.graph_depth_first.specs.Order.{Reach}
use Rattle.graph_depth_first.specs.Steps.{at}
use Rattle.graph_components.specs.Components.{turn, twinned, CanGather, Gathered, Parted, Parting, Split, CanWalkBack}
use Rattle.graph_components.proofs.Parts as parts

pub parting_first : {g q : List ℕ} {n : ℕ} {order label stack label' : List ℕ} → CanWalkBack g q n order label stack → length label' ≡ length label → ((x : ℕ) → x < n → at label' x ≡ 0)
    → Parting g q n order label' stack n
parting_first {g} {q} {n} {order} {label'} can long none = record {
  graph = can.graph;
  places = can.places;
  cells = omega (arith, can.cells);
  room = can.room;
  small = can.small;
  state = parts.parted_first (turn (edge g q n)) n (at order) (at label') can.ordered none;
}

pub part_node : {g q : List ℕ} {n : ℕ} {order label stack : List ℕ} (k i : ℕ) → Parting g q n order label stack k → i < k → at order i < n
part_node k i v b = (v.state.order.node i (omega (arith, v.state.most))).0

module _ {g q : List ℕ} {n : ℕ} {order label stack : List ℕ} (k : ℕ) (v : Parting g q n order label stack (k + 1)) where
  pub part_skip : (at label (at order k) ≡ 0 → ⊥) → Parting g q n order label stack k
  part_skip h = record { graph = v.graph; places = v.places; cells = v.cells; room = v.room; small = v.small; state = parts.part_skip k v.state h }

  pub part_can : at order k < n → at label (at order k) ≡ 0 → CanGather g q n label stack (at order k) (k + 1)
  part_can h new = record { graph = v.graph; cells = v.cells; room = v.room; node = h; some = omega arith; new = new; fresh = v.state.fresh }

  pub part-new : at label (at order k) ≡ 0 → {label' stack' : List ℕ} → Gathered (turn (edge g q n)) n (at order k) (k + 1) (at label) (at label')
      → length label' ≡ length label → length stack' ≡ length stack → Parting g q n order label' stack' k
  part-new new {label'} w a b = record {
    graph = v.graph;
    places = v.places;
    cells = omega (arith, v.cells);
    room = omega (arith, v.room);
    small = v.small;
    state = parts.part-new k v.state new (at label') w (λ x y h. (listed v.graph).from y x h);
  }

module _ {e : ℕ → ℕ → Bool} {n : ℕ} {o c : ℕ → ℕ} (from : Sources e n) (v : Parted e n o c 0) where
  labelled : (z : ℕ) → z < n → c z ≡ 0 → ⊥
  labelled z b = v.done z b (omega arith)

  joined : (x y : ℕ) → x < n → y < n → twinned e n x y ≡ true → c x ≡ c y
  unfolding twinned
  joined x y xn yn h =
      sym
      (⊎_elim
      (λ (q : eqb x y ≡ true). ap c (sym (eqb-true x y q)))
      (λ (q : (via e (below n) x y && via e (below n) y x) ≡ true). v.whole x y xn yn (labelled x xn)
      (inr (sound e (below n) x y (and_left (via e (below n) x y) _ q))) (inr (sound e (below n) y x (and_right (via e (below n) x y) _ q))))
      (or_cases (eqb x y) _ h))

  parted : (x y : ℕ) → x < n → y < n → c x ≡ c y → twinned e n x y ≡ true
  unfolding twinned
  parted x y xn yn q = go (v.right x y xn yn (labelled x xn) q) (v.right y x yn xn (labelled y yn) (sym q))
    where
      go : Reach e x y → Reach e y x → (eqb x y || (via e (below n) x y && via e (below n) y x)) ≡ true
      go (inl a) b = or_left (eqb x y) _ (eq-eqb x y a)
      go (inr a) (inl b) = or_left (eqb x y) _ (eq-eqb x y (sym b))
      go (inr a) (inr b) =
          or_right (eqb x y) _
          (and_both (via e (below n) x y) _ (complete e (below n) (sources-below from) x y a) (complete e (below n) (sources-below from) y x b))

  split_done : Split e n c
  split_done = record { some = labelled; most = v.top; joined = joined; parted = parted }

pub split_of : {g q : List ℕ} {n : ℕ} {order label stack : List ℕ} → Parting g q n order label stack 0 → Split (turn (edge g q n)) n (at label)
split_of v = split_done (λ x y h. listed-to (listed v.graph) y x h) v.state
