-- The searches from one node after the other. Assumes nothing.
use Prim.Native.Nat.{ℕ, ◌+◌, ◌<◌, ◌≤◌}
use native.Mathlib.Omega.{arith}
use mathlib.Core.Path.{◌≡◌, refl, sym, ap, ◌∙◌}
use mathlib.Core.Bool.{Bool, true, false, true≢false}
use mathlib.Core.List.{List, ◌++◌}
use lib.ListN.{get_or, length, replicate, drop, length-replicate}
use borrow.Author.Count.{below_more}
use Rattle.std.proofs.lemmas.List.{get_or_append_left, get_or-replicate, length-append, length-drop}
use Rattle.graphs.specs.Bools.{fails}
use Rattle.graphs.specs.Lists.{below}
use Rattle.graphs.specs.Walk.{cyclic}
use Rattle.graphs.specs.Walks.{sources-below, cyclic_walk}
use Rattle.graph_neighbours.specs.declared.Neighbours.{Neighbours}
use Rattle.graph_neighbours.specs.Followed.{followed}
use Rattle.graph_neighbours.specs.Lists.{deg, nb, edge, listed}
use Rattle.graph_colours.specs.declared.State.{State}
use Rattle.graph_colours.specs.declared.State.TheVariants.{White, Black}
use Rattle.graph_depth_first.specs.declared.Progress.{Progress}
use Rattle.graph_depth_first.specs.Lists.{Lists}
use Rattle.graph_colours.specs.Colours.{colour_of, View, view, Starts, Run, Ran}
use Rattle.graph_depth_first.specs.Search.{Search}
use Rattle.graph_depth_first.specs.Steps.{at, state_at, Ready, Searched, CanWalkIn, Walked}
use Rattle.graph_depth_first.proofs.Numbers.{black_number}
use Rattle.graph_depth_first.proofs.Moves as moves
use Rattle.graph_depth_first.proofs.Falling as falling

-- between two searches no node is gray, and the nodes below i are known
pub record Round (graph : Neighbours) (n i : ℕ) (s : Lists) (p : Progress) : Type 0 where
  pub ready : Ready graph n s p
  pub empty : p.height ≡ 0
  pub known : (x : ℕ) → x < i → state_at s.states x ≡ White → ⊥

-- the first n items of a list are v
pub cleared : {A : Type 0} (n : ℕ) (v : A) (l : List A) {l' : List A} → l' ≡ replicate n v ++ drop n l → (x : ℕ) → x < n → get_or l' x v ≡ v
cleared n v l q x b = ap (λ k. get_or k x v) q ∙ get_or_append_left (replicate n v) (drop n l) v x (omega (arith, length-replicate n v)) ∙ get_or-replicate n x v v b

pub cleared_long : {A : Type 0} (n : ℕ) (v : A) (l : List A) {l' : List A} → l' ≡ replicate n v ++ drop n l → {N : ℕ} → length l ≡ N → n ≤ N → length l' ≡ N
cleared_long n v l q k b = ap length q ∙ length-append (replicate n v) (drop n l) ∙ (omega (arith, length-replicate n v, length-drop n l))

-- lists stay long enough when they are cleared
pub cleared_can : {starts list : List ℕ} {n : ℕ} {states states' : List State} {cursors cursors' stack order : List ℕ} → CanWalkIn starts list n states cursors stack order
    → states' ≡ replicate n White ++ drop n states → cursors' ≡ replicate n 0 ++ drop n cursors → CanWalkIn starts list n states' cursors' stack order
cleared_can {n = n} {states} {cursors = cursors} can a b = record {
  graph = can.graph;
  colours = omega (arith, can.colours, cleared_long n White states a refl can.colours);
  passed = omega (arith, can.passed, cleared_long n 0 cursors b refl can.passed);
  places = can.places;
  orders = can.orders;
  small = can.small;
}

module _ {graph : Neighbours} {n : ℕ} {s : Lists} (can : CanWalkIn graph.starts.now (followed graph) n s.states s.cursors s.stack s.order) where
  pub round_first : ((x : ℕ) → x < n → state_at s.states x ≡ White) → ((x : ℕ) → x < n → at s.cursors x ≡ 0) → s.met ≡ false → Round graph n 0 s (record { height = 0; finished = 0 })
  round_first zs zu clear =
      let first = moves.first (edge graph.starts.now (followed graph) n) n (deg graph.starts.now) (nb graph.starts.now (followed graph)) (λ x. 0) (at s.cursors) (at s.stack) (λ x. 0) (at s.order) (λ x h. refl) zu in
      record {
        ready = record {
          number = λ x. 0;
          low = λ x. 0;
          graph_in = can.graph;
          colours = can.colours;
          passed = can.passed;
          places = can.places;
          orders = can.orders;
          small = can.small;
          states = zs;
          state = first;
          falls = λ h. falling.falls_first first (listed can.graph) (λ x h. refl) zu;
          closes = λ h. absurd (true≢false (sym h ∙ clear));
        };
        empty = refl;
        known = λ x h. absurd (omega arith);
      }

module _ {graph : Neighbours} {n i : ℕ} {s : Lists} {p : Progress} (r : Round graph n i s p) where
  pub round_more : {s' : Lists} {p' : Progress} → i < n → Searched graph n i s s' p' → Round graph n (i + 1) s' p'
  round_more {s'} b v = record {
    ready = v.ready;
    empty = v.empty;
    known = below_more (λ x. state_at s'.states x ≡ White → ⊥) i (λ x k. v.kept.known x (omega arith) (r.known x k)) v.known;
  }

  module _ (b : n ≤ i) where
    all : (x : ℕ) → x < n → r.ready.number x ≡ 0 → ⊥
    all x h z = r.known x (omega arith) (r.ready.states x h ∙ ap colour_of z)

    finished : Search (edge graph.starts.now (followed graph) n) n (deg graph.starts.now) (nb graph.starts.now (followed graph)) r.ready.number (at s.cursors) (at s.stack) r.ready.low (at s.order) 0 p.finished
    finished = rw r.empty at r.ready.state

    pub round_black : (x : ℕ) → x < n → state_at s.states x ≡ Black
    round_black x h = r.ready.states x h ∙ black_number (r.ready.number x) (moves.black finished all x h)

    pub round_ran : {u : View} → Starts n u → Run n (deg graph.starts.now) (nb graph.starts.now (followed graph)) u (view s.states s.cursors s.stack 0) → Ran n (deg graph.starts.now) (nb graph.starts.now (followed graph)) (view s.states s.cursors s.stack 0)
    round_ran {u} starts run = record { first = u; starts = starts; run = run; black = round_black }

    pub round_done : Walked (edge graph.starts.now (followed graph) n) n s.order s.met
    round_done = record { answer = go s.met refl; ordered = moves.ordered finished all }
      where
        go : (t : Bool) → s.met ≡ t → t ≡ cyclic (edge graph.starts.now (followed graph) n) (below n)
        go true q = sym (r.ready.closes q)
        go false q = sym (fails _ (λ h.
            let k = (cyclic_walk (edge graph.starts.now (followed graph) n) (below n) (sources-below (listed r.ready.graph_in).from)).0 h in
            let w = falling.falling finished (listed r.ready.graph_in) (r.ready.falls q) (moves.black finished all) k.1 in
            omega arith))
