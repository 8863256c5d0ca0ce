-- The steps of a loading make the area of the first state. Assumes nothing.
use mathlib.Core.Path.{◌≡◌, refl, sym, ap, ap₂, ◌∙◌}
use mathlib.Core.Bool.{Bool, true, false, not}
use mathlib.Core.List.{List}
use Prim.Native.Nat.{ℕ, ◌+◌, ◌*◌, ◌≤◌}
use native.Mathlib.Omega.{arith}
use native.Mathlib.Nat.{zero-add}
use lib.Dec.{ltb}
use lib.ListN.{length, get_or, set, length-set, replicate, length-replicate}
use Rattle.graphs.specs.Count.{ind, count_ext}
use Rattle.graphs.specs.Lists.{below}
use Rattle.graphs.specs.Slots.{flat, slot_edge}
use Rattle.graphs.specs.Tab.{tab, tab-length, is_tab, zeros, tab_alike}
use Rattle.graphs.specs.Walk.{cyclic, only}
use Rattle.graphs.specs.Walks.{acyclic_none}
use Rattle.layout.specs.Patch.{patch, part, part_long, part_at, patch_long}
use Rattle.move_edges.specs.Matrix.{matrix}
use Rattle.move_ledger.specs.Graph.{Load, edge, members}
use Rattle.move_ledger.specs.Loading.{entry_sets}
use Rattle.move_ledger.specs.LoadLaws.{Loadable-sets, entry_sets-length}
use Rattle.move_ledger.specs.Nodes.{sources, targets, node_edge}
use Rattle.move_ledger.specs.NodeMoves.{placed_first, placing_first}
use Rattle.move_ledger.proofs.NodeWalks.{cyclic-nodes}
use Rattle.move_ledger.specs.Totals.{filled_cells, busy-first}
use Rattle.move_area.specs.Bodies.{lane_at, Header, Bodies, write, Sized}
use Rattle.move_area.specs.BodyLaws.{set_header, renew_edges, renew_counts, renew_component, renew_header}
use Rattle.move_area.specs.Area.{encode}
use Rattle.move_area.specs.Calls.{first}
use Rattle.move_area.specs.NodeBodies.{Nodes, node_bodies, state_of, encode-nodes}
use Rattle.move_slots.specs.Filled.{Filled}
use Rattle.move_slots.specs.Counted.{Counted, counted-ends, counted_le, counted-flat, counted-edge, counted-cyclic}
use Rattle.move_loading.specs.Steps.{GraphWritten, component_lane, CanWriteFlags, FlagsWritten, CanLoad}
use Rattle.move_loading.proofs.Reading.{room_is, start_of, start-sized, start_long, sets_are, nodes_are, blank, blank_long}

module _ (load : Load) (n : ℕ) (sets l : List ℕ) (r : Loadable-sets load n sets (length l)) where
  abbrev X : List ℕ
  X = entry_sets load sets

  abbrev nodes : List ℕ
  nodes = tab (λ i. i) load.A

  -- the edges of the first placement
  abbrev edges : ℕ → ℕ → Bool
  edges = node_edge load nodes X

  long : length X ≡ load.A
  long = entry_sets-length load sets

  few : length X ≤ n
  few = omega (arith, long, r.loadable.sizes.wide)

  abbrev first_nodes : Nodes
  first_nodes = record { sets = X; nodes = nodes; counter = 0; marks = replicate n 0 }

  -- what the area holds when the graph is written, with an acyclic flag and a component
  abbrev graph_header : ℕ → Header
  graph_header y =
      record {
        registered = load.A;
        counter = 0;
        acyclic = y;
        occupied = load.A;
        distinct = filled_cells (sources load nodes X) (targets load nodes X) n (load.D + load.E);
      }

  abbrev graph_bodies : ℕ → List ℕ → Bodies
  graph_bodies y w =
      record {
        edges = tab (flat (sources load nodes X) (targets load nodes X) n (load.D + load.E)) (n * n);
        header = graph_header y;
        words = (start_of load n sets l r).words;
        counts = tab (members load nodes) n;
        marks = replicate n 0;
        component = w;
        nodes = nodes;
      }

  graph_sized : (y : ℕ) (w : List ℕ) → length w ≡ n → Sized n load.A (graph_bodies y w)
  graph_sized y w e =
      record {
        edges = tab-length _ (n * n);
        few = omega (arith, r.loadable.sizes.wide);
        words = λ j b. tab-length _ load.A;
        counts = tab-length _ n;
        marks = length-replicate n 0;
        component = e;
        nodes = tab-length _ load.A;
      }

  -- with the flag and the component of the edges, it is the first state
  bodies_are : graph_bodies (ind (not (cyclic edges (below n)))) (component_lane edges n) ≡ node_bodies load n first_nodes
  unfolding node_bodies
  bodies_are = rw (long, busy-first load n (omega (arith, r.loadable.sizes.wide))) refl

  state_is : state_of first_nodes ≡ first load n sets
  state_is = rw (placed_first X load.A long) refl

  whole : {y : ℕ} {w : List ℕ} → y ≡ ind (not (cyclic edges (below n))) → w ≡ component_lane edges n → write n (graph_bodies y w) l ≡ encode load n (first load n sets) l
  whole p q =
      ap₂ (λ y w. write n (graph_bodies y w) l) p q ∙ ap (λ b. write n b l) bodies_are
      ∙ sym (encode-nodes load n first_nodes r.loadable.order (placing_first r) few l) ∙ ap (λ s. encode load n s l) state_is

  -- the acyclic flag is set
  set-flag : (y z : ℕ) (w : List ℕ) → length w ≡ n → set (write n (graph_bodies y w) l) (n * n + 2) z ≡ write n (graph_bodies z w) l
  set-flag y z w e =
      set_header n load.A (graph_bodies y w) (graph_sized y w e) l (room_is load n sets l r) 2 z (omega arith) ∙ renew_header n load.A (graph_bodies y w) (graph_sized y w e) l (graph_header z)

  module _ (l₁ : List ℕ) (e₁ : l₁ ≡ write n (start_of load n sets l r) l) {counts s t : List ℕ} {m : ℕ} {l₂ : List ℕ} (g : GraphWritten load n l₁ counts s t m l₂) where
    filled : Filled load n nodes X counts s t
    filled = rw (nodes_are load n sets l r l₁ e₁, sets_are load n sets l r l₁ e₁) at g.filled

    pub counted : Counted load nodes X s t n m
    counted = record { order = r.loadable.order; placing = placing_first r; few = few; slots = filled.slots; many = g.many }

    counts_are : part 0 n counts ≡ tab (members load nodes) n
    counts_are = is_tab (part 0 n counts) n _ (part_long 0 n counts) (λ x b. part_at 0 n counts x b ∙ ap (λ i. get_or counts i 0) (zero-add x) ∙ filled.count_at x b)

    matrix_is : matrix s t n m ≡ tab (flat (sources load nodes X) (targets load nodes X) n (load.D + load.E)) (n * n)
    unfolding matrix
    matrix_is = tab_alike _ _ (n * n) (counted-flat counted)

    cells_are : filled_cells s t n m ≡ filled_cells (sources load nodes X) (targets load nodes X) n (load.D + load.E)
    unfolding filled_cells
    cells_are = count_ext _ _ (n * n) (λ i b. ap (ltb 0) (counted-flat counted i b))

    graph_is : l₂ ≡ write n (graph_bodies 0 (replicate n 0)) l
    graph_is =
        g.area ∙ ap (set (patch 0 (matrix s t n m) (patch (lane_at n 8) (part 0 n counts) l₁)) (n * n + 4)) cells_are
        ∙ ap₂ (λ (u v : List ℕ). set (patch 0 u (patch (lane_at n 8) v l₁)) (n * n + 4) F) matrix_is counts_are
        ∙ ap (λ (u : List ℕ). set (patch 0 M (patch (lane_at n 8) (tab (members load nodes) n) u)) (n * n + 4) F) e₁
        ∙ ap (λ (u : List ℕ). set (patch 0 M u) (n * n + 4) F)
        (renew_counts n load.A (start_of load n sets l r) (start-sized load n sets l r) l (tab (members load nodes) n) (tab-length _ n))
        ∙ ap (λ (u : List ℕ). set u (n * n + 4) F) (renew_edges n load.A (made (part 0 (n * n) l)) (made-sized (part 0 (n * n) l) (part_long 0 (n * n) l)) l M (tab-length _ (n * n)))
        ∙ set_header n load.A (made M) (made-sized M (tab-length _ (n * n))) l (room_is load n sets l r) 4 F (omega arith)
        ∙ renew_header n load.A (made M) (made-sized M (tab-length _ (n * n))) l (graph_header 0)
      where
        M : List ℕ
        M = tab (flat (sources load nodes X) (targets load nodes X) n (load.D + load.E)) (n * n)

        F : ℕ
        F = filled_cells (sources load nodes X) (targets load nodes X) n (load.D + load.E)

        -- with the counts, and the edges e, that aren't counted yet
        made : List ℕ → Bodies
        made e =
            record {
              edges = e;
              header = (start_of load n sets l r).header;
              words = (start_of load n sets l r).words;
              counts = tab (members load nodes) n;
              marks = replicate n 0;
              component = replicate n 0;
              nodes = nodes;
            }

        made-sized : (e : List ℕ) → length e ≡ n * n → Sized n load.A (made e)
        made-sized e h =
            record {
              edges = h;
              few = omega (arith, r.loadable.sizes.wide);
              words = λ j b. tab-length _ load.A;
              counts = tab-length _ n;
              marks = length-replicate n 0;
              component = length-replicate n 0;
              nodes = tab-length _ load.A;
            }

    component_is : component_lane (slot_edge s t m) n ≡ component_lane edges n
    component_is = tab_alike _ _ n (λ x b. ap (λ e. ind (only e (below n) x)) (counted-edge counted (omega arith)))

    -- what is answered, and the area
    pub loaded-says : {c : Bool} {l₃ : List ℕ} → FlagsWritten (slot_edge s t m) n l₂ c l₃ → c ≡ cyclic (edge load X) X
    loaded-says f = f.says ∙ counted-cyclic counted ∙ cyclic-nodes r.loadable.order (placing_first r) n few ∙ ap (λ (p : List ℕ). cyclic (edge load p) p) (placed_first X load.A long)

    pub loaded_is : {c : Bool} {l₃ : List ℕ} → FlagsWritten (slot_edge s t m) n l₂ c l₃ → l₃ ≡ encode load n (first load n sets) l
    loaded_is {c} {l₃} f = go c refl
      where
        flag : (b : Bool) → c ≡ b → cyclic edges (below n) ≡ b
        flag b h = sym (counted-cyclic counted) ∙ sym f.says ∙ h

        go : (b : Bool) → c ≡ b → l₃ ≡ encode load n (first load n sets) l
        go true h =
            f.some h ∙ ap (patch (lane_at n 10) (component_lane (slot_edge s t m) n)) graph_is
            ∙ renew_component n load.A (graph_bodies 0 (replicate n 0)) (graph_sized 0 (replicate n 0) (length-replicate n 0)) l (component_lane (slot_edge s t m) n) (tab-length _ n)
            ∙ whole (sym (ap (λ b. ind (not b)) (flag true h))) component_is
        go false h =
            f.none h ∙ ap (λ (u : List ℕ). set u (n * n + 2) 1) graph_is ∙ set-flag 0 1 (replicate n 0) (length-replicate n 0)
            ∙ whole (sym (ap (λ b. ind (not b)) (flag false h))) (is_tab (replicate n 0) n _ (length-replicate n 0) (λ x b. zeros n x ∙ sym (ap ind (acyclic_none edges n x (flag false h) b))))

-- what the graph's writing leaves
module _ {load : Load} {n : ℕ} {sets area : List ℕ} {heads slots : ℕ} (can : CanLoad load n sets area heads slots) where
  pub flags_can : {l heads' s t : List ℕ} {m : ℕ} {l' : List ℕ} → l ≡ write n (start_of load n sets area can.loadable) area → GraphWritten load n l heads' s t m l'
      → length heads' ≡ length (blank heads) → length s ≡ length (blank slots) → length t ≡ length (blank slots) → CanWriteFlags l' n m s t heads' (blank slots)
  flags_can {l} {heads'} {s} {t} {m} {l'} e g h a b =
      let q = counted load n sets area can.loadable l e g in
      let z = counted_le q in
      let graph : List ℕ = patch 0 (matrix s t n m) (patch (lane_at n 8) (part 0 n heads') l) in
      let y : length l' ≡ length area = ap length g.area ∙ length-set graph (n * n + 4) (filled_cells s t n m) ∙ patch_long 0 (matrix s t n m) (patch (lane_at n 8) (part 0 n heads') l) ∙ patch_long (lane_at n 8) (part 0 n heads') l ∙ start_long load n sets area can.loadable l e in
      record {
        room = omega (arith, can.loadable.loadable.sizes.area);
        slots = record {
          slots = omega (arith, can.loadable.loadable.sizes.entries, can.loadable.loadable.sizes.bits);
          sources = omega (arith, can.slots_long, blank_long);
          targets = omega (arith, can.slots_long, blank_long);
          ends = counted-ends q;
          nodes = can.loadable.loadable.sizes.sets;
        };
        lists = record { rows = omega (arith, can.rows, blank_long); room = omega (arith, can.slots_long, blank_long); short = omega (arith, can.slots_short, blank_long) };
      }
