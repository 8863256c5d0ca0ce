-- An area that holds a state by nodes, and what stands in its cells. Assumes nothing.
use Rattle.std.specs.Prelude.{◌≡◌, true, not, ℕ, ◌+◌, ◌*◌, ◌^◌, ◌≤◌, ◌<◌, length}
use Rattle.std.proofs.Math.Path.{sym, ap}
use Rattle.std.proofs.Common.{◌∙◌, arith, zero-add}
use mathlib.Core.List.{List}
use Rattle.std.proofs.Math.ListN.{get_or}
use Rattle.graphs.specs.Count.{ind}
use Rattle.graphs.specs.Lists.{below}
use Rattle.graphs.specs.Tab.{tab-length, tab-at, is_tab}
use Rattle.graphs.specs.Walk.{cyclic, only}
use Rattle.graphs.specs.Slots.{flat}
use Rattle.layout.specs.Patch.{part, part_at}
use Rattle.entry_set.specs.Joined.{parts}
use Rattle.entry_set.specs.Lanes.{lanes}
use Rattle.entry_set.specs.LaneLaws.{lanes_is}
use Rattle.entry_set.specs.SetLaws.{below_256}
use Rattle.move_ledger.specs.Graph.{Load, at, members}
use Rattle.move_ledger.specs.LoadLaws.{InOrder}
use Rattle.move_ledger.specs.Nodes.{Placing, sources, targets, node_edge}
use Rattle.move_ledger.specs.Totals.{busy_nodes, filled_cells}
use Rattle.move_area.specs.Bodies.{lane_at, atom_at, write, Sized}
use Rattle.move_area.specs.BodyLaws.{write_long, read-edges, read-registered, read_counter, read_acyclic, read-occupied, read-distinct, read-words, read-counts, read-marks, read_component, read-nodes}
use Rattle.move_area.specs.Area.{sets_in, decode, encode, consistent}
use Rattle.move_area.specs.Held.{Held, consistent-held, consistent-whole}
use Rattle.move_area.specs.NodeBodies.{Nodes, node_bodies, state_of, encode-nodes}
use Rattle.move_area.specs.Checked.{nodes_state, Ranged, sets-length, ranged_placing, consistent_ranged}

-- l is the area l₀ with the state s written
pub record Stands (load : Load) (N : ℕ) (s : Nodes) (l₀ l : List ℕ) : Type 0 where
  pub order : InOrder load
  pub small : N ≤ 1024
  pub room : atom_at N + load.A ≤ length l₀
  pub placing : Placing load s.nodes s.sets
  pub few : length s.sets ≤ N
  pub wide : (x : ℕ) → x < length s.sets → at s.sets x < 2 ^ 256
  pub long : length s.marks ≡ N
  pub marks : (x : ℕ) → x < N → at s.marks x ≤ s.counter
  pub is : l ≡ write N (node_bodies load N s) l₀

pub nodes-sized : (load : Load) (N : ℕ) (s : Nodes) → Placing load s.nodes s.sets → length s.sets ≤ N → length s.marks ≡ N → Sized N load.A (node_bodies load N s)
unfolding node_bodies
nodes-sized load N s p few long =
    record {
      edges = tab-length _ (N * N);
      few = few;
      words = λ j b. tab-length _ _;
      counts = tab-length _ N;
      marks = long;
      component = tab-length _ N;
      nodes = p.atoms;
    }

module _ {load : Load} {N : ℕ} {s : Nodes} {l₀ l : List ℕ} (v : Stands load N s l₀ l) where
  pub stands-sized : Sized N load.A (node_bodies load N s)
  stands-sized = nodes-sized load N s v.placing v.few v.long

  pub stands_long : length l ≡ length l₀
  stands_long = ap length v.is ∙ write_long N (node_bodies load N s) l₀

  -- what stands in the cells
  pub registered-at : get_or l (N * N) 0 ≡ length s.sets
  unfolding node_bodies
  registered-at = ap (λ (u : List ℕ). get_or u (N * N) 0) v.is ∙ read-registered N load.A (node_bodies load N s) stands-sized l₀ v.room

  pub counter_at : get_or l (N * N + 1) 0 ≡ s.counter
  unfolding node_bodies
  counter_at = ap (λ (u : List ℕ). get_or u (N * N + 1) 0) v.is ∙ read_counter N load.A (node_bodies load N s) stands-sized l₀ v.room

  pub acyclic_at : get_or l (N * N + 2) 0 ≡ ind (not (cyclic (node_edge load s.nodes s.sets) (below N)))
  unfolding node_bodies
  acyclic_at = ap (λ (u : List ℕ). get_or u (N * N + 2) 0) v.is ∙ read_acyclic N load.A (node_bodies load N s) stands-sized l₀ v.room

  pub occupied-at : get_or l (N * N + 3) 0 ≡ busy_nodes load s.nodes N
  unfolding node_bodies
  occupied-at = ap (λ (u : List ℕ). get_or u (N * N + 3) 0) v.is ∙ read-occupied N load.A (node_bodies load N s) stands-sized l₀ v.room

  pub distinct_at : get_or l (N * N + 4) 0 ≡ filled_cells (sources load s.nodes s.sets) (targets load s.nodes s.sets) N (load.D + load.E)
  unfolding node_bodies
  distinct_at = ap (λ (u : List ℕ). get_or u (N * N + 4) 0) v.is ∙ read-distinct N load.A (node_bodies load N s) stands-sized l₀ v.room

  cell : (b k : ℕ) (w : List ℕ) → part b k (write N (node_bodies load N s) l₀) ≡ w → (x : ℕ) → x < k → get_or l (b + x) 0 ≡ get_or w x 0
  cell b k w e x h = sym (part_at b k l x h) ∙ ap (λ (u : List ℕ). get_or (part b k u) x 0) v.is ∙ ap (λ (u : List ℕ). get_or u x 0) e

  pub edge_at : (i : ℕ) → i < N * N → get_or l i 0 ≡ flat (sources load s.nodes s.sets) (targets load s.nodes s.sets) N (load.D + load.E) i
  unfolding node_bodies
  edge_at i h =
      ap (λ k. get_or l k 0) (sym (zero-add i))
      ∙ cell 0 (N * N) _ (read-edges N load.A (node_bodies load N s) stands-sized l₀ v.room) i h ∙ tab-at _ (N * N) i h

  pub word_at : (x : ℕ) → x < length s.sets → (j : ℕ) → j < 8 → get_or l (lane_at N j + x) 0 ≡ get_or (parts 32 8 (at s.sets x)) j 0
  unfolding node_bodies
  word_at x h j b = cell (lane_at N j) (length s.sets) _ (read-words N load.A (node_bodies load N s) stands-sized l₀ v.room j b) x h ∙ tab-at _ (length s.sets) x h

  pub set_at : (x : ℕ) → x < length s.sets → lanes l (lane_at N 0 + x) N ≡ at s.sets x
  set_at x h =
      lanes_is l (lane_at N 0 + x) N (at s.sets x) (v.wide x h)
      (λ j b. let e : lane_at N 0 + x + j * N ≡ lane_at N j + x = omega arith in ap (λ i. get_or l i 0) e ∙ word_at x h j b)

  -- so these are the sets that the area names
  pub sets-in : sets_in N l ≡ s.sets
  unfolding sets_in
  sets-in = sym (is_tab s.sets (get_or l (N * N) 0) _ (sym registered-at) (λ x h. sym (set_at x (omega (arith, registered-at)))))

  pub count_at : (x : ℕ) → x < N → get_or l (lane_at N 8 + x) 0 ≡ members load s.nodes x
  unfolding node_bodies
  count_at x h = cell (lane_at N 8) N _ (read-counts N load.A (node_bodies load N s) stands-sized l₀ v.room) x h ∙ tab-at _ N x h

  pub mark_at : (x : ℕ) → x < N → get_or l (lane_at N 9 + x) 0 ≡ at s.marks x
  unfolding node_bodies
  mark_at x h = cell (lane_at N 9) N _ (read-marks N load.A (node_bodies load N s) stands-sized l₀ v.room) x h

  pub component_at : (x : ℕ) → x < N → get_or l (lane_at N 10 + x) 0 ≡ ind (only (node_edge load s.nodes s.sets) (below N) x)
  unfolding node_bodies
  component_at x h = cell (lane_at N 10) N _ (read_component N load.A (node_bodies load N s) stands-sized l₀ v.room) x h ∙ tab-at _ N x h

  pub node_at : (i : ℕ) → i < load.A → get_or l (atom_at N + i) 0 ≡ at s.nodes i
  unfolding node_bodies
  node_at i h = cell (atom_at N) load.A _ (read-nodes N load.A (node_bodies load N s) stands-sized l₀ v.room) i h

  pub marks-part : part (lane_at N 9) N l ≡ s.marks
  unfolding node_bodies
  marks-part = ap (part (lane_at N 9) N) v.is ∙ read-marks N load.A (node_bodies load N s) stands-sized l₀ v.room

  pub nodes-part : part (atom_at N) load.A l ≡ s.nodes
  unfolding node_bodies
  nodes-part = ap (part (atom_at N) load.A) v.is ∙ read-nodes N load.A (node_bodies load N s) stands-sized l₀ v.room

  -- the state by sets, encoded
  pub stands-encode : l ≡ encode load N (state_of s) l₀
  stands-encode = v.is ∙ sym (encode-nodes load N s v.order v.placing v.few l₀)

-- a consistent area holds the state that it names
pub consistent-stands : (load : Load) (N : ℕ) (l : List ℕ) → InOrder load → N ≤ 1024 → load.E ≤ 256 → atom_at N + load.A ≤ length l → consistent load N l ≡ true
    → Stands load N (nodes_state load N l) l l
unfolding decode
consistent-stands load N l o small bits room c =
    record {
      order = o;
      small = small;
      room = room;
      placing = placing;
      few = few;
      wide = λ x h. below_256 bits (held.sound.in_range x h);
      long = held.long;
      marks = held.marks;
      is = sym (consistent-whole load N l c) ∙ encode-nodes load N (nodes_state load N l) o placing few l;
    }
  where
    held : Held load N (decode load N l)
    held = consistent-held load N l c

    ranged : Ranged load N l
    ranged = consistent_ranged load N l o small room c

    placing : Placing load (part (atom_at N) load.A l) (sets_in N l)
    placing = ranged_placing small ranged

    few : length (sets_in N l) ≤ N
    few = omega (arith, sets-length N l, ranged.few)
