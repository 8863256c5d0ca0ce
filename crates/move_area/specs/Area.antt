-- What a move graph's area holds: the ledger, the walk counter and the walk marks, and what is worked out from them. Assumes nothing.
use Rattle.std.specs.Prelude.{Bool, not, cond, ◌&&◌, List, ℕ, ◌+◌, ◌*◌, ◌^◌, ◌/◌, ◌%◌, eqb, ltb, leb, length, get_or}
use Rattle.graphs.specs.Count.{ind}
use Rattle.graphs.specs.Lists.{all, has, some_below}
use Rattle.graphs.specs.Tab.{tab}
use Rattle.graphs.specs.Walk.{cyclic, only}
use Rattle.layout.specs.Patch.{part}
use Rattle.entry_set.specs.Joined.{parts}
use Rattle.entry_set.specs.Lanes.{lanes}
use Rattle.move_ledger.specs.Graph.{Load, at, members, mult, edge, rising, edges}
use Rattle.move_ledger.specs.Ledger.{Ledger, index}
use Rattle.move_ledger.specs.Nodes.{placed}
use Rattle.move_area.specs.Bodies.{lane_at, atom_at, Bodies, write}

-- the state of a move graph
pub record State : Type 0 where
  pub ledger : Ledger
  pub counter : ℕ
  pub marks : List ℕ

-- f x y at x * n + y
abbrev pub square : ℕ → (ℕ → ℕ → ℕ) → List ℕ
square n f = tab (λ i. f (i / n) (i % n)) (n * n)

-- f of the set of each registered node, 0 of a node that is free yet
abbrev pub nodewise : List ℕ → (ℕ → ℕ) → ℕ → ℕ
nodewise sets f x = cond (ltb x (length sets)) (f (at sets x)) 0

-- what the fields hold for a state: counts, edges, totals, acyclic flag and component (none where there is no cycle) are worked out from the load and the
-- placement
unfoldable pub bodies : Load → ℕ → State → Bodies
bodies load N st =
    let place = st.ledger.place in
    let sets = st.ledger.registered in
    record {
      edges = square N (λ x y. nodewise sets (λ X. nodewise sets (λ Y. mult load place X Y) y) x);
      header =
          record {
            registered = length sets;
            counter = st.counter;
            acyclic = ind (not (cyclic (edge load place) place));
            occupied = length (rising place);
            distinct = length (edges load place);
          };
      words = λ j. tab (λ x. get_or (parts 32 8 (at sets x)) j 0) (length sets);
      counts = tab (nodewise sets (members load place)) N;
      marks = st.marks;
      component = tab (nodewise sets (λ X. ind (only (edge load place) place X))) N;
      nodes = tab (λ i. index (at place i) sets) load.A;
    }

-- the area that holds a state; cells that no field has are as they were
unfoldable pub encode : Load → ℕ → State → List ℕ → List ℕ
encode load N st area = write N (bodies load N st) area

-- the registered sets that an area names: eight numbers of 32 bits each, the low one first
unfoldable pub sets_in : ℕ → List ℕ → List ℕ
sets_in N area = tab (λ x. lanes area (lane_at N 0 + x) N) (get_or area (N * N) 0)

-- the state that an area names
unfoldable pub decode : Load → ℕ → List ℕ → State
decode load N area =
    let sets = sets_in N area in
    record {
      ledger = record { place = placed (part (atom_at N) load.A area) sets; registered = sets };
      counter = get_or area (N * N + 1) 0;
      marks = part (lane_at N 9) N area;
    }

-- no set stands twice in a list
unfoldable pub distinct : List ℕ → Bool
distinct sets = not (some_below (λ i. some_below (λ j. eqb (at sets j) (at sets i)) i) (length sets))

-- the registered sets are distinct, in range and at most N, each atom has one, and no walk mark is above the walk counter
unfoldable pub in_order : Load → ℕ → State → Bool
in_order load N st =
    let sets = st.ledger.registered in
    leb (length sets) N
    && (distinct sets && (all (λ X. ltb X (2 ^ load.E)) sets && (all (λ X. has X sets) st.ledger.place && all (λ m. leb m st.counter) st.marks)))

-- two lists are one
unfoldable pub alike_lists : List ℕ → List ℕ → Bool
alike_lists k l = eqb (length k) (length l) && not (some_below (λ i. not (eqb (at k i) (at l i))) (length k))

-- the named state is in order, and all that is worked out from the load and the placement is as it stands in the area: written anew, the area is the same
unfoldable pub consistent : Load → ℕ → List ℕ → Bool
consistent load N area = in_order load N (decode load N area) && alike_lists (encode load N (decode load N area) area) area
