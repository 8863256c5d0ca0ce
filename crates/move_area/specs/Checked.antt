-- For the code: an area is consistent exactly where its numbers are those worked out by nodes and slots. Assumes nothing.
use Rattle.std.specs.Prelude.{◌≡◌, true, not, ℕ, ◌+◌, ◌*◌, ◌^◌, ◌≤◌, ◌<◌, length}
use Rattle.std.proofs.Math.Path.{refl, sym, ap, subst}
use Rattle.std.proofs.Common.{◌∙◌, arith, zero-add}
use mathlib.Core.List.{List}
use Rattle.std.proofs.Math.ListN.{get_or}
use Rattle.graphs.specs.Bools.{and_both}
use Rattle.graphs.specs.Count.{ind}
use Rattle.graphs.specs.Lists.{below, has-at}
use Rattle.graphs.specs.Tab.{tab, tab-length, tab-at, is_tab}
use Rattle.graphs.specs.Walk.{cyclic, only}
use Rattle.graphs.specs.Slots.{flat}
use Rattle.layout.specs.Patch.{part, part_long, part_at}
use Rattle.entry_set.specs.Joined.{parts}
use Rattle.entry_set.specs.Lanes.{lanes}
use Rattle.entry_set.specs.LaneLaws.{lanes_word}
use Rattle.move_ledger.specs.Ledger.{index}
use Rattle.move_ledger.specs.Places.{index-has}
use Rattle.move_ledger.specs.Graph.{Load, at, members}
use Rattle.move_ledger.specs.LoadLaws.{InOrder}
use Rattle.move_ledger.specs.Nodes.{Placing, sources, targets, node_edge}
use Rattle.move_ledger.specs.NodeLaws.{placed-length, placed_at}
use Rattle.move_ledger.specs.Totals.{busy_nodes, filled_cells}
use Rattle.move_area.specs.Bodies.{lane_at, atom_at, write, Sized}
use Rattle.move_area.specs.BodyLaws.{HeaderIn, write_same, read-edges, read_acyclic, read-occupied, read-distinct, read-counts, read_component, read-nodes}
use Rattle.move_area.specs.Area.{bodies, encode, sets_in, decode, in_order, consistent}
use Rattle.move_area.specs.ListLaws.{one_alike, Distinct, one_place}
use Rattle.move_area.specs.Held.{Held, held-in_order, held-distinct, bodies-sized, consistent-held, consistent-whole}
use Rattle.move_area.specs.NodeBodies.{Nodes, node_bodies, state_of, bodies-nodes, encode-nodes}

-- each atom's node
abbrev pub nodes_in : Load → ℕ → List ℕ → List ℕ
nodes_in load N area = part (atom_at N) load.A area

-- the state that an area names, by nodes
abbrev pub nodes_state : Load → ℕ → List ℕ → Nodes
nodes_state load N area =
    record { sets = sets_in N area; nodes = nodes_in load N area; counter = get_or area (N * N + 1) 0; marks = part (lane_at N 9) N area }

-- nodes, sets and marks are in range
pub record Ranged (load : Load) (N : ℕ) (area : List ℕ) : Type 0 where
  pub few : get_or area (N * N) 0 ≤ N
  pub nodes : (i : ℕ) → i < load.A → get_or area (atom_at N + i) 0 < get_or area (N * N) 0
  pub distinct : Distinct (sets_in N area)
  pub range : (x : ℕ) → x < get_or area (N * N) 0 → at (sets_in N area) x < 2 ^ load.E
  pub marks : (x : ℕ) → x < N → get_or area (lane_at N 9 + x) 0 ≤ get_or area (N * N + 1) 0

-- and the rest is what is worked out
pub record Worked (load : Load) (N : ℕ) (area : List ℕ) : Type 0 where
  pub counts : (x : ℕ) → x < N → get_or area (lane_at N 8 + x) 0 ≡ members load (nodes_in load N area) x
  pub edges : (i : ℕ) → i < N * N
      → get_or area i 0 ≡ flat (sources load (nodes_in load N area) (sets_in N area)) (targets load (nodes_in load N area) (sets_in N area)) N (load.D + load.E) i
  pub acyclic : get_or area (N * N + 2) 0 ≡ ind (not (cyclic (node_edge load (nodes_in load N area) (sets_in N area)) (below N)))
  pub component : (x : ℕ) → x < N → get_or area (lane_at N 10 + x) 0 ≡ ind (only (node_edge load (nodes_in load N area) (sets_in N area)) (below N) x)
  pub occupied : get_or area (N * N + 3) 0 ≡ busy_nodes load (nodes_in load N area) N
  pub distinct : get_or area (N * N + 4) 0 ≡ filled_cells (sources load (nodes_in load N area) (sets_in N area)) (targets load (nodes_in load N area) (sets_in N area)) N (load.D + load.E)

pub sets-length : (N : ℕ) (area : List ℕ) → length (sets_in N area) ≡ get_or area (N * N) 0
unfolding sets_in
sets-length N area = tab-length _ _

pub sets-at : (N : ℕ) (area : List ℕ) (x : ℕ) → x < get_or area (N * N) 0 → at (sets_in N area) x ≡ lanes area (lane_at N 0 + x) N
unfolding sets_in
sets-at N area x b = tab-at _ _ x b

part_is : (at k : ℕ) (l : List ℕ) (f : ℕ → ℕ) → ((i : ℕ) → i < k → get_or l (at + i) 0 ≡ f i) → part at k l ≡ tab f k
part_is at k l f h = is_tab (part at k l) k f (part_long at k l) (λ i b. part_at at k l i b ∙ h i b)

-- nodes and sets in range fit together
pub ranged_placing : {load : Load} {N : ℕ} {area : List ℕ} → N ≤ 1024 → Ranged load N area → Placing load (nodes_in load N area) (sets_in N area)
ranged_placing {load} {N} {area} small r =
    record {
      atoms = part_long (atom_at N) load.A area;
      few = omega (arith, sets-length N area, r.few);
      distinct = one_place r.distinct;
      inside = λ i b. omega (arith, sets-length N area, part_at (atom_at N) load.A area i b, r.nodes i b);
    }

module _ (load : Load) (N : ℕ) (area : List ℕ) (o : InOrder load) (small : N ≤ 1024) where
  -- what an area names is a state
  pub ranged_held : Ranged load N area → Held load N (state_of (nodes_state load N area))
  ranged_held r =
      let p = ranged_placing small r in
      record {
        sound =
            record {
              atoms = placed-length _ _ ∙ p.atoms;
              room = omega (arith, sets-length N area, r.few);
              distinct = r.distinct.apart;
              in_range = λ i b. r.range i (omega (arith, sets-length N area));
              registered = λ i b. rw (placed_at (nodes_in load N area) (sets_in N area) i (omega (arith, p.atoms))) (has-at (sets_in N area) (at (nodes_in load N area) i) (p.inside i b));
            };
        long = part_long (lane_at N 9) N area;
        marks = λ x b. omega (arith, part_at (lane_at N 9) N area x b, r.marks x b);
      }

  module _ (room : atom_at N + load.A ≤ length area) where
    pub checked-consistent : ((i : ℕ) → get_or area i 0 < 2 ^ 32) → Ranged load N area → Worked load N area → consistent load N area ≡ true
    unfolding consistent decode node_bodies
    checked-consistent cells r w =
        and_both (in_order load N (decode load N area)) _ (held-in_order (ranged_held r))
        (one_alike _ _ (encode-nodes load N s o p few area
        ∙ write_same N load.A area (node_bodies load N s) sized
        (part_is 0 (N * N) area _ (λ i b. ap (λ k. get_or area k 0) (zero-add i) ∙ w.edges i b)) head word (part_is (lane_at N 8) N area _ w.counts) refl (part_is (lane_at N 10) N area _ w.component) refl))
      where
        s : Nodes
        s = nodes_state load N area

        head : HeaderIn N area (node_bodies load N s).header
        head = record { registered = sym (sets-length N area); counter = refl; acyclic = w.acyclic; occupied = w.occupied; distinct = w.distinct }

        p : Placing load (nodes_in load N area) (sets_in N area)
        p = ranged_placing small r

        few : length (sets_in N area) ≤ N
        few = omega (arith, sets-length N area, r.few)

        sized : Sized N load.A (node_bodies load N s)
        sized = subst (Sized N load.A) (bodies-nodes load N s o p few) (bodies-sized (ranged_held r))

        word : (j : ℕ) → j < 8 → part (lane_at N j) (length (sets_in N area)) area ≡ tab (λ x. get_or (parts 32 8 (at (sets_in N area) x)) j 0) (length (sets_in N area))
        word j b =
            part_is (lane_at N j) _ area _ (λ x k.
            let e : lane_at N 0 + x + j * N ≡ lane_at N j + x = omega arith in
            sym (ap (λ X. get_or (parts 32 8 X) j 0) (sets-at N area x (omega (arith, sets-length N area))) ∙ lanes_word area (lane_at N 0 + x) N cells j b ∙ ap (λ i. get_or area i 0) e))

    module _ (c : consistent load N area ≡ true) where
      held : Held load N (decode load N area)
      held = consistent-held load N area c

      whole : write N (bodies load N (decode load N area)) area ≡ area
      unfolding encode
      whole = consistent-whole load N area c

      node_at : (i : ℕ) → i < load.A → get_or area (atom_at N + i) 0 ≡ index (at (decode load N area).ledger.place i) (sets_in N area)
      unfolding bodies decode
      node_at i b =
          sym (part_at (atom_at N) load.A area i b)
          ∙ ap (λ (u : List ℕ). get_or (part (atom_at N) load.A u) i 0) (sym whole)
          ∙ ap (λ (u : List ℕ). get_or u i 0) (read-nodes N load.A (bodies load N (decode load N area)) (bodies-sized held) area room)
          ∙ tab-at _ load.A i b

      pub consistent_ranged : Ranged load N area
      unfolding decode
      consistent_ranged =
          record {
            few = omega (arith, sets-length N area, held.sound.room);
            nodes = λ i b. omega (arith, node_at i b, (index-has _ _ (held.sound.registered i b)).0, sets-length N area);
            distinct = held-distinct held;
            range = λ x b. held.sound.in_range x (omega (arith, sets-length N area));
            marks = λ x b. omega (arith, part_at (lane_at N 9) N area x b, held.marks x b);
          }

      by-nodes : write N (node_bodies load N (nodes_state load N area)) area ≡ area
      unfolding decode
      by-nodes =
          ap (λ b. write N b area) (sym (bodies-nodes load N (nodes_state load N area) o (ranged_placing small consistent_ranged) (omega (arith, sets-length N area, consistent_ranged.few)))) ∙ whole

      sized : Sized N load.A (node_bodies load N (nodes_state load N area))
      unfolding decode
      sized = subst (Sized N load.A) (bodies-nodes load N (nodes_state load N area) o (ranged_placing small consistent_ranged) (omega (arith, sets-length N area, consistent_ranged.few))) (bodies-sized held)

      cell : (b k : ℕ) (f : ℕ → ℕ) → part b k (write N (node_bodies load N (nodes_state load N area)) area) ≡ tab f k → (x : ℕ) → x < k → get_or area (b + x) 0 ≡ f x
      cell b k f e x l = sym (part_at b k area x l) ∙ ap (λ (u : List ℕ). get_or (part b k u) x 0) (sym by-nodes) ∙ ap (λ (u : List ℕ). get_or u x 0) e ∙ tab-at f k x l

      pub consistent_worked : Worked load N area
      unfolding node_bodies
      consistent_worked =
          record {
            counts = cell (lane_at N 8) N _ (read-counts N load.A (node_bodies load N (nodes_state load N area)) sized area room);
            edges = λ i b. ap (λ k. get_or area k 0) (sym (zero-add i)) ∙ cell 0 (N * N) _ (read-edges N load.A (node_bodies load N (nodes_state load N area)) sized area room) i b;
            acyclic = ap (λ (u : List ℕ). get_or u (N * N + 2) 0) (sym by-nodes) ∙ read_acyclic N load.A (node_bodies load N (nodes_state load N area)) sized area room;
            component = cell (lane_at N 10) N _ (read_component N load.A (node_bodies load N (nodes_state load N area)) sized area room);
            occupied = ap (λ (u : List ℕ). get_or u (N * N + 3) 0) (sym by-nodes) ∙ read-occupied N load.A (node_bodies load N (nodes_state load N area)) sized area room;
            distinct = ap (λ (u : List ℕ). get_or u (N * N + 4) 0) (sym by-nodes) ∙ read-distinct N load.A (node_bodies load N (nodes_state load N area)) sized area room;
          }
