-- The moves on the lists, for the stores of `src/lib.rt`. Assumes nothing.
use Prim.Native.Nat.{ℕ, ◌+◌, ◌-◌, ◌^◌, ◌<◌, ◌≤◌}
use native.Mathlib.Omega.{arith}
use native.Mathlib.Decide.{ℕ_discrete}
use mathlib.Core.Path.{◌≡◌, refl, sym, ap, ◌∙◌}
use mathlib.Core.Logic.{◌⊎◌, inl, inr}
use mathlib.Core.Bool.{Bool, true, false, true≢false}
use mathlib.Core.List.{List, []}
use lib.ListN.{get_or, length, set, length-set}
use lib.Seq.{get_or-set_same, get_or-set_other}
use Rattle.graphs.specs.Lists.{below}
use Rattle.graphs.specs.Walk.{cyclic}
use Rattle.graphs.specs.Walks.{sources-below, cyclic_walk}
use Rattle.graph_neighbours.specs.declared.Neighbours.{Neighbours}
use Rattle.graph_neighbours.specs.Followed.{followed}
use Rattle.graph_neighbours.specs.Parts.{part_of}
use Rattle.graph_neighbours.specs.Lists.{deg, nb, edge, listed, part_long}
use Rattle.graph_colours.specs.declared.State.{State}
use Rattle.graph_colours.specs.declared.State.TheVariants.{White, Gray, Black}
use Rattle.graph_colours.specs.States.{code}
use Rattle.graph_colours.specs.Colours.{colour_of, view, held, Next, opens, passes, closes}
use Rattle.graph_depth_first.specs.declared.Progress.{Progress}
use Rattle.graph_depth_first.specs.Lists.{Lists, Long}
use Rattle.graph_depth_first.specs.Search.{Falls}
use Rattle.graph_depth_first.specs.Steps.{at, state_at, CanDiscover, Discovered, CanFinish, Finished, CanVisit, Visited, Ready, Kept, Stepped}
use Rattle.graph_depth_first.proofs.Whites.{room_for}
use Rattle.graph_depth_first.proofs.Numbers.{number_white, number_gray, number_black, black_number, apart, put, put_same, put_other, agree_put, size_states}
use Rattle.graph_depth_first.proofs.Views.{held_none, next_top, view_opens, view-passes, view-closes}
use Rattle.graph_depth_first.proofs.Moves as moves
use Rattle.graph_depth_first.proofs.Falling as falling

pub kept_refl : (n : ℕ) (l : List State) → Kept n l l
kept_refl n l = record { known = λ x b h. h }

pub kept_trans : {n : ℕ} {a b c : List State} → Kept n a b → Kept n b c → Kept n a c
kept_trans p q = record { known = λ x b h. q.known x b (p.known x b h) }

pub long_refl : (s : Lists) → Long s s
long_refl s = record { states = refl; cursors = refl; stack = refl; order = refl }

pub long_trans : {a b c : Lists} → Long a b → Long b c → Long a c
long_trans p q = record { states = q.states ∙ p.states; cursors = q.cursors ∙ p.cursors; stack = q.stack ∙ p.stack; order = q.order ∙ p.order }

-- a node whose state changes is not white afterwards
turned_kept : (n : ℕ) (l : List State) (j : ℕ) (q : State) → j < length l → (q ≡ White → ⊥) → Kept n l (set l j q)
turned_kept n l j q b no-white = record {
  known = λ x h k z. elim (ℕ_discrete x j) [
    | yes i ↦ no-white (sym (get_or-set_same l j q White b) ∙ sym (ap (state_at (set l j q)) i) ∙ z)
    | no i ↦ k (sym (get_or-set_other l j x q White i) ∙ z)
  ];
}

module _ {graph : Neighbours} {n : ℕ} {s : Lists} {p : Progress} (r : Ready graph n s p) where
  abbrev e : ℕ → ℕ → Bool
  e = edge graph.starts.now (followed graph) n

  abbrev d : ℕ → ℕ
  d = deg graph.starts.now

  abbrev f : ℕ → ℕ → ℕ
  f = nb graph.starts.now (followed graph)

  -- a white node is discovered
  module _ (j : ℕ) (jn : j < n) (white : state_at s.states j ≡ White) where
    new : r.number j ≡ 0
    new = number_white (r.number j) (sym (r.states j jn) ∙ white)

    pub push_fits : p.height + p.finished < n
    push_fits = room_for n r.number p.height p.finished j r.state.count jn new

    pub discover_can : CanDiscover s p j
    discover_can = record { cell = omega (arith, r.colours); white = white; room = omega (arith, r.places, push_fits) }

    module _ (after : (k : ℕ) → k + 1 ≡ p.height → e (at s.stack k) j ≡ true) (from : (held (at s.stack) p.height ≡ []) ⊎ ((x : ℕ) × Next d f (view s.states s.cursors s.stack p.height) x j)) where
      abbrev s₁ : Lists
      s₁ = record { states = set s.states j Gray; cursors = s.cursors; stack = set s.stack p.height j; order = s.order; met = s.met }

      abbrev p₁ : Progress
      p₁ = record { height = p.height + 1; finished = p.finished }

      sj : at s₁.stack p.height ≡ j
      sj = get_or-set_same s.stack p.height j 0 (omega (arith, r.places, push_fits))

      so : (k : ℕ) → k < n → (k ≡ p.height → ⊥) → at s₁.stack k ≡ at s.stack k
      so k b h = get_or-set_other s.stack p.height k j 0 h

      agree₁ : (x : ℕ) → x < n → state_at s₁.states x ≡ colour_of (put r.number j 1 x)
      agree₁ = agree_put s.states r.number r.states (omega (arith, r.colours)) j 1 Gray jn refl

      push_ready : Ready graph n s₁ p₁
      push_ready = record {
        number = put r.number j 1;
        low = put r.low j p.finished;
        graph_in = r.graph_in;
        colours = rw length-set r.colours;
        passed = r.passed;
        places = rw length-set r.places;
        orders = r.orders;
        small = r.small;
        states = agree₁;
        state = moves.push r.state (listed r.graph_in) (put r.number j 1) (at s₁.stack) (put r.low j p.finished) j jn new after (put_same r.number j 1) (λ x b. put_other r.number j 1 x) sj so (put_same r.low j p.finished) (λ x b. put_other r.low j p.finished x);
        falls = λ h. falling.falls_push r.state (listed r.graph_in) (r.falls h) (put r.number j 1) j new (put_same r.number j 1) (λ x b. put_other r.number j 1 x);
        closes = r.closes;
      }

      push_new : Stepped graph n s p s₁ p₁
      push_new = record {
        kept = turned_kept n s.states j Gray (omega (arith, r.colours)) (apart (λ q. omega arith));
        ready = push_ready;
        moved = opens j (view_opens n d f s.states s.cursors s.stack p.height (omega (arith, r.colours)) j jn (omega (arith, r.places, push_fits)) white from);
        less = omega (arith, size_states s₁.states (put r.number j 1) agree₁ d (at s.cursors) (p.height + 1), size_states s.states r.number r.states d (at s.cursors) p.height, moves.push_size r.state (listed r.graph_in) (put r.number j 1) (at s₁.stack) (put r.low j p.finished) j jn new after (put_same r.number j 1) (λ x b. put_other r.number j 1 x) sj so (put_same r.low j p.finished) (λ x b. put_other r.low j p.finished x));
        long = record { states = rw length-set refl; cursors = refl; stack = rw length-set refl; order = refl };
      }

      module _ {s' : Lists} {p' : Progress} (w : Discovered s p j s' p') where
        pub push_step : Stepped graph n s p s' p'
        push_step = rw (w.turned, w.after) push_new

        pub push_known : state_at s'.states j ≡ White → ⊥
        push_known = rw w.turned (apart (λ q. omega (arith, ap code (get_or-set_same s.states j Gray White (omega (arith, r.colours))))))

    -- it is a root
    module _ (empty : p.height ≡ 0) {s' : Lists} {p' : Progress} (w : Discovered s p j s' p') where
      pub root_step : Stepped graph n s p s' p'
      root_step = push_step (λ k h. absurd (omega arith)) (inl (ap (held (at s.stack)) empty ∙ held_none (at s.stack))) w

      pub root_known : state_at s'.states j ≡ White → ⊥
      root_known = push_known (λ k h. absurd (omega arith)) (inl (ap (held (at s.stack)) empty ∙ held_none (at s.stack))) w

  -- the node t on top of the stack, and j, the place of its next neighbour
  module _ (some : 0 < p.height) where
    abbrev t : ℕ
    t = at s.stack (p.height - 1)

    abbrev j : ℕ
    j = at s.cursors t

    pub top_node : t < n
    top_node = r.state.node (p.height - 1) (omega arith)

    pub top_gray : state_at s.states t ≡ Gray
    top_gray = r.states t top_node ∙ ap colour_of (r.state.gray (p.height - 1) (omega arith))

    pub top_full : p.height + p.finished ≤ n
    top_full = omega (arith, r.state.count)

    pub top_short : j < 2 ^ 31
    top_short = omega (arith, r.state.reach t top_node, r.graph_in.inside t top_node, r.graph_in.short)

    -- its neighbours, as a part of the list
    module _ {part : List ℕ} (same : part ≡ part_of graph.starts.now (followed graph) t) where
      long : length part ≡ d t
      long = ap length same ∙ part_long r.graph_in t top_node

      pub more-there : j < length part → j < d t
      more-there h = omega (arith, long)

      pub all_there : length part ≤ j → j ≡ d t
      all_there h = omega (arith, long, r.state.reach t top_node)

      pub next_is : {y : ℕ} → y ≡ get_or part j 0 → y ≡ f t j
      next_is q = q ∙ ap (λ l. get_or l j 0) same

    -- t finishes
    module _ (all : j ≡ d t) where
      pub finish_can : CanFinish s p t
      finish_can = record { cell = omega (arith, top_node, r.colours); gray = top_gray; some = some; room = omega (arith, top_full, r.orders) }

      abbrev s₂ : Lists
      s₂ = record { states = set s.states t Black; cursors = s.cursors; stack = s.stack; order = set s.order p.finished t; met = s.met }

      abbrev p₂ : Progress
      p₂ = record { height = p.height - 1; finished = p.finished + 1 }

      of : at s₂.order p.finished ≡ t
      of = get_or-set_same s.order p.finished t 0 (omega (arith, top_full, r.orders))

      oo : (i : ℕ) → i < n → (i ≡ p.finished → ⊥) → at s₂.order i ≡ at s.order i
      oo i b h = get_or-set_other s.order p.finished i t 0 h

      agree₂ : (x : ℕ) → x < n → state_at s₂.states x ≡ colour_of (put r.number t (p.finished + 2) x)
      agree₂ = agree_put s.states r.number r.states (omega (arith, r.colours)) t (p.finished + 2) Black top_node (sym (black_number (p.finished + 2) (omega arith)))

      pop_ready : Ready graph n s₂ p₂
      pop_ready = record {
        number = put r.number t (p.finished + 2);
        low = r.low;
        graph_in = r.graph_in;
        colours = rw length-set r.colours;
        passed = r.passed;
        places = r.places;
        orders = rw length-set r.orders;
        small = r.small;
        states = agree₂;
        state = moves.pop r.state (listed r.graph_in) (put r.number t (p.finished + 2)) (at s₂.order) some all (put_same r.number t (p.finished + 2)) (λ x b. put_other r.number t (p.finished + 2) x) of oo;
        falls = λ h. falling.falls_pop r.state (listed r.graph_in) (r.falls h) (put r.number t (p.finished + 2)) some all (put_same r.number t (p.finished + 2)) (λ x b. put_other r.number t (p.finished + 2) x);
        closes = r.closes;
      }

      pop_new : Stepped graph n s p s₂ p₂
      pop_new = record {
        kept = turned_kept n s.states t Black (omega (arith, top_node, r.colours)) (apart (λ q. omega arith));
        ready = pop_ready;
        moved = closes t (view-closes n d f s.states s.cursors s.stack p.height (omega (arith, r.colours)) t top_node refl some top_gray all);
        less = omega (arith, size_states s₂.states (put r.number t (p.finished + 2)) agree₂ d (at s.cursors) (p.height - 1), size_states s.states r.number r.states d (at s.cursors) p.height, moves.pop_size r.state (listed r.graph_in) (put r.number t (p.finished + 2)) (at s₂.order) some all (put_same r.number t (p.finished + 2)) (λ x b. put_other r.number t (p.finished + 2) x) of oo);
        long = record { states = rw length-set refl; cursors = refl; stack = refl; order = rw length-set refl };
      }

      pub pop_step : {s' : Lists} {p' : Progress} → Finished s p t s' p' → Stepped graph n s p s' p'
      pop_step w = rw (w.turned, w.after) pop_new

    -- t's next neighbour
    module _ (room : j < d t) {y : ℕ} (is : y ≡ f t j) where
      next_node : y < n
      next_node = rw is (r.graph_in.ends t j top_node room)

      to_y : e t y ≡ true
      to_y = rw is ((listed r.graph_in).step t j top_node room)

      pub visit_can : CanVisit s p t y
      visit_can = record {
        cell = omega (arith, next_node, r.colours);
        next = omega (arith, top_node, r.passed);
        short = top_short;
        room = λ h. omega (arith, push_fits y next_node h, r.places);
      }

      next : Next d f (view s.states s.cursors s.stack p.height) t y
      next = next_top n d f s.states s.cursors s.stack p.height (omega (arith, r.colours)) t y refl some room (sym is)

      abbrev s₃ : Bool → Lists
      s₃ b = record { states = s.states; cursors = set s.cursors t (j + 1); stack = s.stack; order = s.order; met = b }

      abbrev cursors₃ : List ℕ
      cursors₃ = set s.cursors t (j + 1)

      ut : at cursors₃ t ≡ j + 1
      ut = get_or-set_same s.cursors t (j + 1) 0 (omega (arith, top_node, r.passed))

      uo : (x : ℕ) → x < n → (x ≡ t → ⊥) → at cursors₃ x ≡ at s.cursors x
      uo x b h = get_or-set_other s.cursors t x (j + 1) 0 h

      -- it is passed by
      passed : (state_at s.states y ≡ White → ⊥) → {b : Bool} → (b ≡ false → Falls e n f r.number (at cursors₃)) → (b ≡ true → cyclic e (below n) ≡ true)
          → Stepped graph n s p (s₃ b) p
      passed known falls shut =
          let done : r.number (f t j) ≡ 0 → ⊥ = λ z. known (r.states y next_node ∙ ap colour_of (ap r.number is ∙ z)) in
          record {
            kept = kept_refl n s.states;
            ready = record {
              number = r.number;
              low = r.low;
              graph_in = r.graph_in;
              colours = r.colours;
              passed = rw length-set r.passed;
              places = r.places;
              orders = r.orders;
              small = r.small;
              states = r.states;
              state = moves.next r.state (listed r.graph_in) (at cursors₃) t top_node room done ut uo;
              falls = falls;
              closes = shut;
            };
            moved = passes t y (view-passes n d f s.states s.cursors s.stack p.height (omega (arith, r.colours)) t y top_node (omega (arith, r.passed)) next known);
            less = omega (arith, size_states s.states r.number r.states d (at cursors₃) p.height, size_states s.states r.number r.states d (at s.cursors) p.height, moves.next-size r.state (listed r.graph_in) (at cursors₃) t top_node room done ut uo);
            long = record { states = refl; cursors = rw length-set refl; stack = refl; order = refl };
          }

      cycle : state_at s.states y ≡ Gray → cyclic e (below n) ≡ true
      cycle h =
          (cyclic_walk e (below n) (sources-below (listed r.graph_in).from)).1
          (t, falling.closed r.state (listed r.graph_in) y some next_node to_y (number_gray (r.number y) (sym (r.states y next_node) ∙ h)))

      pub visit_step : {s' : Lists} {p' : Progress} → Visited s p t y s' p' → Stepped graph n s p s' p'
      visit_step {s'} {p'} w = go (state_at s.states y) refl
        where
          go : (q : State) → state_at s.states y ≡ q → Stepped graph n s p s' p'
          go White h = push_step y next_node h (λ k i. let z : k ≡ p.height - 1 = omega arith in rw z to_y) (inr (t, next)) (w.white h)
          go Gray h =
              let q = w.gray h in
              rw (q.0, q.1) (passed (rw h (apart (λ z. omega arith))) (λ z. absurd (true≢false z)) (λ z. cycle h))
          go Black h =
              let q = w.black h in
              let done : 2 ≤ r.number (f t j) = rw is at (number_black (r.number y) (sym (r.states y next_node) ∙ h)) in
              rw (q.0, q.1) (passed (rw h (apart (λ z. omega arith))) (λ z. falling.falls_next r.state (listed r.graph_in) (r.falls z) (at cursors₃) t done ut uo) r.closes)
