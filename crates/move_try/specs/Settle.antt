-- Step 3 with the target registered: what is asked, and that the area holds the next state. Assumes nothing.
use Rattle.std.specs.Prelude.{◌≡◌, Bool, not, ◌&&◌, List, Option, Some, None, ℕ, ◌+◌, ◌*◌, ◌^◌, ◌≤◌, ◌<◌, eqb, ltb, length, get_or, set}
use Rattle.std.proofs.Math.Path.{refl, sym}
use Rattle.std.proofs.Common.{ap, ap₂, subst, ◌∙◌, zero-add}
use Rattle.std.proofs.Math.Bool.{true, false, cond}
use native.Mathlib.Omega.{arith}
use Rattle.graph_neighbours.specs.Lists.{edge}
use Rattle.graph_slots.specs.Asked.{SlotLists}
use Rattle.graphs.specs.Count.{ind, count, count_ext, count_le}
use Rattle.graphs.specs.Lists.{below}
use Rattle.graphs.specs.Tab.{tab, tab-at, is_tab, tab_alike}
use Rattle.graphs.specs.Walk.{via, cyclic}
use Rattle.graphs.specs.Slots.{slot_edge, Ends}
use Rattle.graph_walks.specs.Marks.{marking}
use Rattle.layout.specs.Patch.{part, part_long, part_at}
use Rattle.move_edges.specs.Matrix.{matrix}
use Rattle.move_edges.specs.Steps.{fresh, Changed}
use Rattle.move_ledger.specs.Graph.{Load, at, members, occupied}
use Rattle.move_ledger.specs.Answer.{Answer, accepted, rejected, is_accepted}
use Rattle.move_ledger.specs.LoadLaws.{Loadable}
use Rattle.move_ledger.specs.Nodes.{Placing, sources, targets, node_edge}
use Rattle.move_ledger.specs.NodeMoves.{placing_set}
use Rattle.move_ledger.proofs.NodeMoves.{moved-cyclic, moved_decides}
use Rattle.move_slots.specs.SlotLaws.{Slotted, slotted_edge, slotted_ends, slotted_flat}
use Rattle.move_ledger.specs.Totals.{busy_nodes, filled_cells, busy-moved}
use Rattle.move_ledger.specs.NodeWalks.{ends-nodes}
use Rattle.move_ledger.proofs.NodeWalks.{cyclic-nodes}
use Rattle.move_area.specs.Bodies.{lane_at, atom_at}
use Rattle.move_area.specs.Area.{sets_in}
use Rattle.move_area.specs.Checked.{nodes_in, nodes_state}
use Rattle.move_area.specs.NodeBodies.{Nodes}
use Rattle.move_area.specs.Calls.{next}
use Rattle.move_slots.specs.Filled.{CanFillOwn, Filled}
use Rattle.move_try.specs.declared.Moved.{Moved}
use Rattle.move_try.specs.Stands.{Stands, stands_long, registered-at, counter_at, acyclic_at, occupied-at, distinct_at, edge_at, sets-in, count_at, mark_at, node_at, marks-part, nodes-part}
use Rattle.move_try.specs.Areas.{counter_in, raised, chunks_after, edges_after, committed}
use Rattle.move_try.specs.Changes.{with_marks, with_node, with_raised, stands-marks, stands-raised, raised-fresh, stands-committed}
use Rattle.move_try.specs.Outcome.{slot_report, with_test, walk_marks}
use Rattle.move_try.specs.Test.{CanTest, walk_area, closes, tested, marked_long}
use Rattle.move_try.specs.Reached.{CanReach, tested-reach}
use Rattle.move_try.specs.Commit.{CanCommit, edges_now}
use Rattle.move_try.specs.Trial.{CanTrial}

-- the ledger's answer
abbrev pub answer_of : Option Moved → Answer
answer_of (Some m) = accepted (record { appeared = m.appeared; vanished = m.vanished; reached = m.reached })
answer_of None = rejected

-- the flag tells whether the graph has a cycle
pub flag_tells : (t : Bool) → eqb (ind (not t)) 0 ≡ t
flag_tells true = refl
flag_tells false = refl

-- the area after the test
module _ {load : Load} {N : ℕ} {s : Nodes} {l₀ l : List ℕ} (v : Stands load N s l₀ l) (a y : ℕ) where
  abbrev E : ℕ → ℕ → Bool
  E = node_edge load (set s.nodes a y) s.sets

  abbrev was : Bool
  was = cyclic (node_edge load s.nodes s.sets) (below N)

  flag : eqb (get_or l (N * N + 2) 0) 0 ≡ was
  flag = ap (λ k. eqb k 0) (acyclic_at v) ∙ flag_tells was

  low : (x : ℕ) → x < N → at (walk_marks load N s a y) x ≤ next s.counter
  unfolding marking
  low x h = rw (tab-at _ (length (with_raised s).marks) x (omega (arith, (stands-raised v).long))) (go (via E (below N) y x))
    where
      go : (t : Bool) → cond t (next s.counter) (at (with_raised s).marks x) ≤ next s.counter
      go true = omega arith
      go false = omega (arith, raised-fresh v x h)

  walked : Stands load N (with_marks (with_raised s) (walk_marks load N s a y)) l₀ (walk_area E N (next (counter_in N l)) y (raised N l))
  unfolding walk_area
  walked =
      rw (counter_at v, marks-part (stands-raised v))
      (stands-marks (stands-raised v) (walk_marks load N s a y) (marked_long E N (next s.counter) y (with_raised s).marks ∙ (stands-raised v).long) low)

  pub stands-tested : {e : ℕ → ℕ → Bool} → e ≡ E → Stands load N (with_test load N s a y was) l₀ (tested e N y l)
  unfolding tested
  stands-tested q = rw (q, flag) (go was)
    where
      go : (t : Bool) → Stands load N (with_test load N s a y t) l₀ (cond t l (walk_area E N (next (counter_in N l)) y (raised N l)))
      go true = v
      go false = walked

  -- the test's answer
  pub closes-cyclic : {e : ℕ → ℕ → Bool} → e ≡ E → a < load.A → y < length s.sets → closes e N y l ≡ cyclic E (below N)
  unfolding closes
  closes-cyclic q ha hy = rw (q, flag) (go was refl)
    where
      go : (t : Bool) → was ≡ t → cond t (cyclic E (below N)) (via E (below N) y y) ≡ cyclic E (below N)
      go true h = refl
      go false h =
          sym (moved_decides v.order v.placing refl a (at s.sets y) y hy refl N v.few ha (sym (cyclic-nodes v.order v.placing N v.few) ∙ h))
          ∙ moved-cyclic v.order v.placing refl a (at s.sets y) y hy refl N v.few

-- the area holds the state that it names, and the target is a registered node
pub record CanSettle (load : Load) (n : ℕ) (area : List ℕ) (atom to : ℕ) : Type 0 where
  pub loadable : Loadable load n true (length area)
  pub stands : Stands load n (nodes_state load n area) area area
  pub there : atom < load.A
  pub node : to < length (sets_in n area)

-- room for a trial: for the atom counts of n nodes, for their heads, and for slots and their neighbour lists
pub record SettleRoom (load : Load) (n nodes heads slots : ℕ) : Type 0 where
  pub counts_long : n ≤ nodes
  pub rows : n < heads
  pub slots_long : load.D + load.E ≤ slots
  pub nodes_short : nodes < 2 ^ 31
  pub heads_short : heads < 2 ^ 31
  pub slots_short : slots < 2 ^ 31

-- the graph with the atom in its new node, and the present one
abbrev pub moved_edge : Load → ℕ → List ℕ → ℕ → ℕ → ℕ → ℕ → Bool
moved_edge load n area atom to = node_edge load (set (nodes_in load n area) atom to) (sets_in n area)

abbrev pub present_edge : Load → ℕ → List ℕ → ℕ → ℕ → Bool
present_edge load n area = node_edge load (nodes_in load n area) (sets_in n area)

-- the state after the test
abbrev pub tested_state : Load → ℕ → List ℕ → ℕ → ℕ → Nodes
tested_state load n area atom to = with_test load n (nodes_state load n area) atom to (cyclic (present_edge load n area) (below n))

-- accepted where the moved graph has no cycle, with the edges that come and go and the nodes reached, and then the atom is moved
pub record Settled (load : Load) (n : ℕ) (area : List ℕ) (atom to : ℕ) (x : Answer) (l : List ℕ) : Type 0 where
  pub says : x ≡ cond (cyclic (moved_edge load n area atom to) (below n)) rejected (accepted (slot_report load n (nodes_in load n area) (sets_in n area) atom to))
  pub stands : Stands load n (cond (is_accepted x) (with_node (tested_state load n area atom to) atom to) (tested_state load n area atom to)) area l

-- slots that are the ledger's have its matrix
slotted_matrix : {load : Load} {nodes sets s t : List ℕ} → Slotted load nodes sets s t → (n : ℕ)
    → matrix s t n (load.D + load.E) ≡ matrix (sources load nodes sets) (targets load nodes sets) n (load.D + load.E)
unfolding matrix
slotted_matrix v n = tab_alike _ _ (n * n) (λ i h. slotted_flat v n i)

-- and fill as many of its cells
slotted_filled : {load : Load} {nodes sets s t : List ℕ} → Slotted load nodes sets s t → (n : ℕ)
    → filled_cells s t n (load.D + load.E) ≡ filled_cells (sources load nodes sets) (targets load nodes sets) n (load.D + load.E)
unfolding filled_cells
slotted_filled v n = count_ext _ _ (n * n) (λ i h. ap (ltb 0) (slotted_flat v n i))

-- no more nodes have an atom than there are
busy_few : (load : Load) (nodes : List ℕ) (n : ℕ) → busy_nodes load nodes n ≤ n
unfolding busy_nodes
busy_few load nodes n = count_le (occupied load nodes) n

-- and the same edges that another placement's slots haven't
slotted_fresh : {load : Load} {nodes nodes' sets s t u v : List ℕ} → Slotted load nodes sets s t → Slotted load nodes' sets u v → (n : ℕ)
    → fresh n s t u v (load.D + load.E) ≡ fresh n (sources load nodes sets) (targets load nodes sets) (sources load nodes' sets) (targets load nodes' sets) (load.D + load.E)
slotted_fresh o f n = count_ext _ _ (n * n) (λ i h. ap₂ (λ j k. eqb j 0 && ltb 0 k) (slotted_flat o n i) (slotted_flat f n i))

module _ {load : Load} {n : ℕ} {area : List ℕ} {atom to : ℕ} (can : CanSettle load n area atom to) where
  some : 0 < n
  some = omega (arith, can.loadable.sizes.wide, can.there)

  moved : Placing load (set (nodes_in load n area) atom to) (sets_in n area)
  moved = placing_set can.stands.placing atom to can.node

  within : to < n
  within = omega (arith, can.node, can.stands.few)

  room : atom_at n ≤ length area
  room = omega (arith, can.stands.room)

  pub settle_trial : {counts s t : List ℕ} → n ≤ length counts → load.D + load.E ≤ length s → load.D + load.E ≤ length t → CanTrial load n area atom to counts s t
  settle_trial a b c =
      let r = registered-at can.stands in
      record {
        loadable = can.loadable;
        few = omega (arith, can.stands.few);
        nodes = λ i h. omega (arith, can.stands.placing.inside i h);
        there = can.there;
        node = omega (arith, can.node);
        counts_long = a;
        sources_long = b;
        targets_long = c;
      }

  -- with the new slots
  module _ {counts s t : List ℕ} (f : Filled load n (set (nodes_in load n area) atom to) (sets_in n area) counts s t) where
    edges : slot_edge s t (load.D + load.E) ≡ moved_edge load n area atom to
    edges = slotted_edge f.slots

    ends : Ends s t n (load.D + load.E)
    ends = slotted_ends f.slots (ends-nodes can.stands.order moved n can.stands.few some)

    pub settle_test : (m : ℕ) → m ≤ load.D + load.E → m ≤ length s → m ≤ length t → CanTest area n to s t m
    settle_test m h b c =
        record {
          ask =
              record {
                slots = omega (arith, can.loadable.sizes.entries, can.loadable.sizes.bits);
                sources = b;
                targets = c;
                ends = record { source = λ k z. ends.source k (omega arith); target = λ k z. ends.target k (omega arith) };
                nodes = can.stands.small;
              };
          node = within;
          room = room;
          low = λ x h. omega (arith, mark_at can.stands x h, counter_at can.stands, can.stands.marks x h);
        }

    module _ {l : List ℕ} {r : Bool} (q : (r ≡ closes (slot_edge s t (load.D + load.E)) n to area) × (l ≡ tested (slot_edge s t (load.D + load.E)) n to area)) where
      answer : r ≡ cyclic (moved_edge load n area atom to) (below n)
      answer = q.0 ∙ closes-cyclic can.stands atom to edges can.there can.node

      after : Stands load n (tested_state load n area atom to) area l
      after = rw q.1 (stands-tested can.stands atom to edges)

      pub settle_rejected : r ≡ true → Settled load n area atom to rejected l
      settle_rejected h = record { says = rw (sym answer ∙ h) refl; stands = after }

      -- the nodes that `to` reaches may be counted
      pub settle_reach : {heads list : List ℕ} → SlotLists s t (load.D + load.E) n heads list → CanReach l n to heads list
      settle_reach g = tested-reach (settle_test _ (omega arith) g.slots.sources g.slots.targets) g q.1

      -- the present placement's slots may be filled: the test left nodes and sets as they were
      pub settle_fill : {counts' u v : List ℕ} → n ≤ length counts' → load.D + load.E ≤ length u → load.D + load.E ≤ length v → CanFillOwn load n l counts' u v
      settle_fill a b c =
          let k = registered-at after in
          record {
            loadable = subst (Loadable load n true) (sym (stands_long after)) can.loadable;
            few = omega (arith, can.stands.few);
            inside = λ i h. omega (arith, node_at after i h, can.stands.placing.inside i h);
            counts_long = a;
            sources_long = b;
            targets_long = c;
          }

      module _ {counts' u v : List ℕ} (o : Filled load n (nodes_in load n l) (sets_in n l) counts' u v) where
        old : Slotted load (nodes_in load n area) (sets_in n area) u v
        old = rw (nodes-part after, sets-in after) at o.slots

        -- the atom's node has a place
        home : at (nodes_in load n area) atom < n
        home = omega (arith, can.stands.placing.inside atom can.there, can.stands.few)

        -- one chunk more where the target had no atom, one fewer where the atom's node has none left
        chunks_balance : busy_nodes load (set (nodes_in load n area) atom to) n + ind (eqb (get_or counts (get_or l (atom_at n + atom) 0) 0) 0)
            ≡ get_or l (n * n + 3) 0 + ind (eqb (get_or l (lane_at n 8 + to) 0) 0)
        chunks_balance =
            ap (λ i. busy_nodes load (set (nodes_in load n area) atom to) n + ind (eqb (get_or counts i 0) 0)) (node_at after atom can.there)
            ∙ ap (λ i. busy_nodes load (set (nodes_in load n area) atom to) n + ind (eqb i 0)) (f.count_at (at (nodes_in load n area) atom) home)
            ∙ busy-moved load (nodes_in load n area) atom to n can.stands.placing.atoms can.there home within
            ∙ sym (ap₂ (λ i j. i + ind (eqb j 0)) (occupied-at after) (count_at after to within))

        pub settle_commit : n ≤ length counts → load.D + load.E ≤ length s → load.D + load.E ≤ length t → load.D + load.E ≤ length u → load.D + load.E ≤ length v
            → CanCommit l n atom to u v s t (load.D + load.E) counts
        settle_commit k b c y z =
            record {
              follow =
                  record {
                    both =
                        record {
                          sources = y;
                          targets = z;
                          new_sources = b;
                          new_targets = c;
                          ends = slotted_ends old (ends-nodes can.stands.order can.stands.placing n can.stands.few some);
                          new_ends = ends;
                          few = omega (arith, can.loadable.sizes.entries, can.loadable.sizes.bits);
                        };
                    room = omega (arith, room, stands_long after);
                    holds = record { at = λ i w. edge_at after i w ∙ sym (slotted_flat old n i) };
                  };
              rows = can.stands.small;
              node = within;
              place = omega (arith, can.stands.room, stands_long after, can.there);
              tallies = k;
              chunks =
                  record {
                    small = can.stands.small;
                    node = within;
                    place = omega (arith, can.stands.room, stands_long after, can.there);
                    tallies = k;
                    home = omega (arith, node_at after atom can.there, home);
                    few = subst (λ i. i ≤ n) (sym (occupied-at after)) (busy_few load (nodes_in load n area) n);
                    left = omega (arith, chunks_balance);
                  };
              edges = distinct_at after ∙ sym (slotted_filled old n);
            }

        pub settle_accepted : r ≡ false → {heads list : List ℕ} → SlotLists s t (load.D + load.E) n heads list → {k : ℕ} → k ≡ count (via (edge heads list n) (below n) to) n
            → {come gone : ℕ} → Changed n u v s t (load.D + load.E) come gone
            → {l' : List ℕ}
            → l' ≡ committed n (matrix s t n (load.D + load.E)) (part 0 n counts) atom to (chunks_after n counts atom to l) (edges_after n come gone l) l
            → Settled load n area atom to (accepted (record { appeared = come; vanished = gone; reached = k })) l'
        settle_accepted h g z c e =
            record {
              says =
                  rw (
                    sym answer ∙ h,
                    c.appeared ∙ slotted_fresh old f.slots n,
                    c.vanished ∙ slotted_fresh f.slots old n,
                    z ∙ ap (λ (w : ℕ → ℕ → Bool). count (via w (below n) to) n) (g.same ∙ edges),
                  ) refl;
              stands =
                  rw (e, slotted_matrix f.slots n, tallies)
                  (stands-committed after atom to can.there can.node (sym answer ∙ h) (omega (arith, chunks_balance))
                  (edges_now can.stands.small (distinct_at after ∙ sym (slotted_filled old n)) c ∙ slotted_filled f.slots n));
            }
          where
            tallies : part 0 n counts ≡ tab (members load (set (nodes_in load n area) atom to)) n
            tallies = is_tab (part 0 n counts) n _ (part_long 0 n counts) (λ x z. part_at 0 n counts x z ∙ ap (λ i. get_or counts i 0) (zero-add x) ∙ f.count_at x z)
