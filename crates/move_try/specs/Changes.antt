-- An area that holds a state holds the next one after each step's writing: the counter, the marks, an accepted move. Assumes nothing.
use Rattle.std.specs.Prelude.{◌≡◌, Bool, true, false, cond, length}
use Rattle.std.proofs.Math.Path.{refl, sym, ap}
use Rattle.std.proofs.Common.{subst, ◌∙◌, arith, length-set}
use mathlib.Core.List.{List}
use Prim.Native.Nat.{ℕ, ◌+◌, ◌*◌, ◌≤◌, ◌<◌}
use Rattle.std.proofs.Math.ListN.{set, replicate, get_or-replicate}
use Rattle.std.proofs.lemmas.List.{length-replicate}
use Rattle.graphs.specs.Count.{ind}
use Rattle.graphs.specs.Lists.{below}
use Rattle.graphs.specs.Tab.{tab, tab-length, is_tab}
use Rattle.graphs.specs.Walk.{cyclic, only}
use Rattle.graphs.specs.Walks.{acyclic_none}
use Rattle.layout.specs.Patch.{patch, part}
use Rattle.move_edges.specs.Matrix.{matrix, matrix_long}
use Rattle.move_ledger.specs.Graph.{Load, at, members}
use Rattle.move_ledger.specs.Nodes.{sources, targets, node_edge}
use Rattle.move_ledger.specs.NodeMoves.{placing_set}
use Rattle.move_ledger.specs.Totals.{busy_nodes, filled_cells}
use Rattle.move_area.specs.Bodies.{lane_at, atom_at, Header, Bodies, write, Sized}
use Rattle.move_area.specs.BodyLaws.{write_long, read-nodes, set-field, set_header, renew_edges, renew_counts, renew_marks, renew_component, renew_nodes, renew_header}
use Rattle.move_area.specs.Calls.{last, next}
use Rattle.move_area.specs.NodeBodies.{Nodes, node_bodies}
use Rattle.move_try.specs.Stands.{Stands, stands-sized, counter_at}
use Rattle.move_try.specs.Areas.{raised, committed}

-- one atom's node is set
module _ (n a : ℕ) (b : Bodies) (v : Sized n a b) (l : List ℕ) (room : atom_at n + a ≤ length l) where
  set_node : (i x : ℕ) → i < a → set (write n b l) (atom_at n + i) x ≡ patch (atom_at n) (set b.nodes i x) (write n b l)
  set_node i x h =
      set-field (atom_at n) b.nodes (write n b l) i x (subst (λ k. part (atom_at n) k (write n b l) ≡ b.nodes) (sym v.nodes) (read-nodes n a b v l room)) (omega (arith, v.nodes)) (omega (arith, v.nodes, write_long n b l))

-- the state with another counter, with other marks, with atom a in node y
abbrev pub with_counter : Nodes → ℕ → Nodes
with_counter s c = record { sets = s.sets; nodes = s.nodes; counter = c; marks = s.marks }

abbrev pub with_marks : Nodes → List ℕ → Nodes
with_marks s w = record { sets = s.sets; nodes = s.nodes; counter = s.counter; marks = w }

abbrev pub with_node : Nodes → ℕ → ℕ → Nodes
with_node s a y = record { sets = s.sets; nodes = set s.nodes a y; counter = s.counter; marks = s.marks }

module _ {load : Load} {N : ℕ} {s : Nodes} {l₀ l : List ℕ} (v : Stands load N s l₀ l) where
  pub stands_counter : (c : ℕ) → ((x : ℕ) → x < N → at s.marks x ≤ c) → Stands load N (with_counter s c) l₀ (set l (N * N + 1) c)
  unfolding node_bodies
  stands_counter c low =
      record {
        order = v.order;
        small = v.small;
        room = v.room;
        placing = v.placing;
        few = v.few;
        wide = v.wide;
        long = v.long;
        marks = low;
        is =
            ap (λ (u : List ℕ). set u (N * N + 1) c) v.is
            ∙ set_header N load.A (node_bodies load N s) (stands-sized v) l₀ v.room 1 c (omega arith)
            ∙ renew_header N load.A (node_bodies load N s) (stands-sized v) l₀ (node_bodies load N (with_counter s c)).header;
      }

  pub stands-marks : (w : List ℕ) → length w ≡ N → ((x : ℕ) → x < N → at w x ≤ s.counter) → Stands load N (with_marks s w) l₀ (patch (lane_at N 9) w l)
  unfolding node_bodies
  stands-marks w e low =
      record {
        order = v.order;
        small = v.small;
        room = v.room;
        placing = v.placing;
        few = v.few;
        wide = v.wide;
        long = e;
        marks = low;
        is = ap (patch (lane_at N 9) w) v.is ∙ renew_marks N load.A (node_bodies load N s) (stands-sized v) l₀ w e;
      }

-- the counter raised, and marks cleared at its last number
abbrev pub with_raised : Nodes → Nodes
with_raised s = with_counter (with_marks s (cond (last s.counter) (replicate (length s.marks) 0) s.marks)) (next s.counter)

pub stands-raised : {load : Load} {N : ℕ} {s : Nodes} {l₀ l : List ℕ} → Stands load N s l₀ l → Stands load N (with_raised s) l₀ (raised N l)
unfolding raised next
stands-raised {load} {N} {s} {l₀} {l} v = rw (counter_at v, v.long) (go (last s.counter))
  where
    zeros : (c : ℕ) (x : ℕ) → x < N → at (replicate N 0) x ≤ c
    zeros c x h = rw (get_or-replicate {A = ℕ} N x 0 0 h) (omega arith)

    go : (t : Bool) → Stands load N (with_counter (with_marks s (cond t (replicate N 0) s.marks)) (cond t 1 (s.counter + 1))) l₀
        (set (cond t (patch (lane_at N 9) (replicate N 0) l) l) (N * N + 1) (cond t 1 (s.counter + 1)))
    go true = stands_counter (stands-marks v (replicate N 0) (length-replicate N 0) (zeros s.counter)) 1 (zeros 1)
    go false = stands_counter v (s.counter + 1) (λ x h. omega (arith, v.marks x h))

-- then each mark is below the counter
pub raised-fresh : {load : Load} {N : ℕ} {s : Nodes} {l₀ l : List ℕ} → Stands load N s l₀ l → (x : ℕ) → x < N → at (with_raised s).marks x < next s.counter
unfolding next
raised-fresh {load} {N} {s} v x h = rw v.long (go (last s.counter))
  where
    go : (t : Bool) → at (cond t (replicate N 0) s.marks) x < cond t 1 (s.counter + 1)
    go true = rw (get_or-replicate {A = ℕ} N x 0 0 h) (omega arith)
    go false = omega (arith, v.marks x h)

-- an accepted move: atom a in node y, where the moved graph has no cycle
module _ {load : Load} {N : ℕ} {s : Nodes} {l₀ l : List ℕ} (v : Stands load N s l₀ l) (a y : ℕ) (ha : a < load.A) (hy : y < length s.sets)
    (free : cyclic (node_edge load (set s.nodes a y) s.sets) (below N) ≡ false) {chunks found : ℕ} (occupied-is : chunks ≡ busy_nodes load (set s.nodes a y) N)
    (distinct-is : found ≡ filled_cells (sources load (set s.nodes a y) s.sets) (targets load (set s.nodes a y) s.sets) N (load.D + load.E)) where
  abbrev moved : List ℕ
  moved = set s.nodes a y

  abbrev edges : List ℕ
  edges = matrix (sources load moved s.sets) (targets load moved s.sets) N (load.D + load.E)

  abbrev counts : List ℕ
  counts = tab (members load moved) N

  abbrev b₀ : Bodies
  b₀ = node_bodies load N s

  -- the header with other totals and another flag
  abbrev head : ℕ → ℕ → ℕ → Header
  head y k e = record { registered = b₀.header.registered; counter = b₀.header.counter; acyclic = y; occupied = k; distinct = e }

  abbrev made : List ℕ → Header → List ℕ → List ℕ → List ℕ → Bodies
  made e h c p o = record { edges = e; header = h; words = b₀.words; counts = c; marks = b₀.marks; component = o; nodes = p }

  sized : (e : List ℕ) (y k f : ℕ) (c p o : List ℕ) → length e ≡ N * N → length c ≡ N → length p ≡ load.A → length o ≡ N → Sized N load.A (made e (head y k f) c p o)
  sized e y k f c p o he hc hp ho =
      let z = stands-sized v in
      record { edges = he; few = z.few; words = z.words; counts = hc; marks = z.marks; component = ho; nodes = hp }

  placed_long : length moved ≡ load.A
  placed_long = rw length-set v.placing.atoms

  chain : committed N edges counts a y chunks found (write N b₀ l₀) ≡ write N (made edges (head 1 chunks found) counts moved (replicate N 0)) l₀
  unfolding committed node_bodies
  chain =
      let z = stands-sized v in
      let le = matrix_long (sources load moved s.sets) (targets load moved s.sets) N (load.D + load.E) in
      let lc = tab-length (members load moved) N in
      let x = b₀.header.acyclic in
      let k = b₀.header.occupied in
      let f = b₀.header.distinct in
      let z₁ = sized edges x k f b₀.counts b₀.nodes b₀.component le z.counts z.nodes z.component in
      let z₂ = sized edges x chunks f b₀.counts b₀.nodes b₀.component le z.counts z.nodes z.component in
      let z₃ = sized edges x chunks found b₀.counts b₀.nodes b₀.component le z.counts z.nodes z.component in
      let z₄ = sized edges x chunks found counts b₀.nodes b₀.component le lc z.nodes z.component in
      let z₅ = sized edges x chunks found counts moved b₀.component le lc placed_long z.component in
      let z₆ = sized edges 1 chunks found counts moved b₀.component le lc placed_long z.component in
      ap (λ (u : List ℕ). rest (set (set u (N * N + 3) chunks) (N * N + 4) found)) (renew_edges N load.A b₀ z l₀ edges le)
      ∙ ap (λ (u : List ℕ). rest (set u (N * N + 4) found)) (set_header N load.A _ z₁ l₀ v.room 3 chunks (omega arith) ∙ renew_header N load.A _ z₁ l₀ (head x chunks f))
      ∙ ap rest (set_header N load.A _ z₂ l₀ v.room 4 found (omega arith) ∙ renew_header N load.A _ z₂ l₀ (head x chunks found))
      ∙ ap (λ (u : List ℕ). patch (lane_at N 10) (replicate N 0) (set (set u (atom_at N + a) y) (N * N + 2) 1)) (renew_counts N load.A _ z₃ l₀ counts lc)
      ∙ ap (λ (u : List ℕ). patch (lane_at N 10) (replicate N 0) (set u (N * N + 2) 1)) (set_node N load.A _ z₄ l₀ v.room a y ha ∙ renew_nodes N load.A _ z₄ l₀ moved placed_long)
      ∙ ap (patch (lane_at N 10) (replicate N 0)) (set_header N load.A _ z₅ l₀ v.room 2 1 (omega arith) ∙ renew_header N load.A _ z₅ l₀ (head 1 chunks found))
      ∙ renew_component N load.A _ z₆ l₀ (replicate N 0) (length-replicate N 0)
    where
      rest : List ℕ → List ℕ
      rest u = patch (lane_at N 10) (replicate N 0) (set (set (patch (lane_at N 8) counts u) (atom_at N + a) y) (N * N + 2) 1)

  done : made edges (head 1 chunks found) counts moved (replicate N 0) ≡ node_bodies load N (with_node s a y)
  unfolding node_bodies matrix
  done = rw (free, none, occupied-is, distinct-is) refl
    where
      none : replicate N 0 ≡ tab (λ x. ind (only (node_edge load (set s.nodes a y) s.sets) (below N) x)) N
      none = is_tab (replicate N 0) N _ (length-replicate N 0) (λ x h. get_or-replicate {A = ℕ} N x 0 0 h ∙ sym (ap ind (acyclic_none _ N x free h)))

  pub stands-committed : Stands load N (with_node s a y) l₀ (committed N edges counts a y chunks found l)
  stands-committed =
      record {
        order = v.order;
        small = v.small;
        room = v.room;
        placing = placing_set v.placing a y hy;
        few = v.few;
        wide = v.wide;
        long = v.long;
        marks = v.marks;
        is = ap (committed N edges counts a y chunks found) v.is ∙ chain ∙ ap (λ b. write N b l₀) done;
      }
