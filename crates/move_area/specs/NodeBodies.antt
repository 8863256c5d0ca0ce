-- For the code: what an area holds, worked out by node numbers and edge slots. Assumes nothing.
use Rattle.std.specs.Prelude.{◌≡◌, not, List, ℕ, ◌+◌, ◌*◌, ◌/◌, ◌%◌, ◌≤◌, ◌<◌, get_or}
use Rattle.std.proofs.Math.Path.{refl, sym, ap}
use Rattle.std.proofs.Common.{◌∙◌, arith, div-add-mod', mod-lt}
use Rattle.std.proofs.Math.Decide.{dec_lt}
use Rattle.std.proofs.Math.ListN.{length}
use borrow.Author.Tests.{lt-ltb, le-ltb, ne_eqb}
use Rattle.graphs.specs.Count.{ind, count-all_no}
use Rattle.graphs.specs.Lists.{below}
use Rattle.graphs.specs.Tab.{tab, is_tab, tab_alike}
use Rattle.graphs.specs.Walk.{cyclic, only}
use Rattle.graphs.specs.Slots.{flat}
use Rattle.graphs.specs.Slots as slots
use Rattle.graphs.specs.SlotLaws.{flat-mult}
use Rattle.graphs.specs.Square.{square_some}
use Rattle.entry_set.specs.Joined.{parts}
use Rattle.move_ledger.specs.Ledger.{index}
use Rattle.move_ledger.specs.Graph.{Load, at, members, mult, edge}
use Rattle.move_ledger.specs.LoadLaws.{InOrder}
use Rattle.move_ledger.specs.Nodes.{placed, Placing, sources, targets, node_edge}
use Rattle.move_ledger.specs.NodeLaws.{placed_at, members-nodes}
use Rattle.move_ledger.specs.NodeWalks.{mult-outside, ends-nodes, only-outside}
use Rattle.move_ledger.proofs.NodeWalks.{mult-nodes, cyclic-nodes, only-nodes}
use Rattle.move_ledger.specs.Totals.{busy_nodes, filled_cells, chunk_count-nodes}
use Rattle.move_ledger.proofs.Totals.{edge-count_cells}
use Rattle.move_area.specs.Bodies.{Bodies, write}
use Rattle.move_area.specs.Area.{State, square, nodewise, bodies, encode}
use Rattle.move_area.specs.ListLaws.{Distinct, index_at}

-- a state by node numbers: the registered sets, each atom's node, the walk counter and the marks
pub record Nodes : Type 0 where
  pub sets : List ℕ
  pub nodes : List ℕ
  pub counter : ℕ
  pub marks : List ℕ

unfoldable pub node_bodies : Load → ℕ → Nodes → Bodies
node_bodies load N s =
    record {
      edges = tab (flat (sources load s.nodes s.sets) (targets load s.nodes s.sets) N (load.D + load.E)) (N * N);
      header =
          record {
            registered = length s.sets;
            counter = s.counter;
            acyclic = ind (not (cyclic (node_edge load s.nodes s.sets) (below N)));
            occupied = busy_nodes load s.nodes N;
            distinct = filled_cells (sources load s.nodes s.sets) (targets load s.nodes s.sets) N (load.D + load.E);
          };
      words = λ j. tab (λ x. get_or (parts 32 8 (at s.sets x)) j 0) (length s.sets);
      counts = tab (members load s.nodes) N;
      marks = s.marks;
      component = tab (λ x. ind (only (node_edge load s.nodes s.sets) (below N) x)) N;
      nodes = s.nodes;
    }

-- the same state by sets
abbrev pub state_of : Nodes → State
state_of s = record { ledger = record { place = placed s.nodes s.sets; registered = s.sets }; counter = s.counter; marks = s.marks }

module _ (load : Load) (N : ℕ) (s : Nodes) (o : InOrder load) (p : Placing load s.nodes s.sets) (few : length s.sets ≤ N) where
  inside : (f : ℕ → ℕ) (x : ℕ) → x < length s.sets → nodewise s.sets f x ≡ f (at s.sets x)
  inside f x b = rw (lt-ltb x (length s.sets) b) refl

  outside : (f : ℕ → ℕ) (x : ℕ) → length s.sets ≤ x → nodewise s.sets f x ≡ 0
  outside f x b = rw (le-ltb x (length s.sets) b) refl

  -- a node's number is its set's, a free node's is 0
  nodewise_is : (f g : ℕ → ℕ) → ((x : ℕ) → x < length s.sets → f (at s.sets x) ≡ g x) → ((x : ℕ) → length s.sets ≤ x → g x ≡ 0) → (x : ℕ) → nodewise s.sets f x ≡ g x
  nodewise_is f g h z x = go (dec_lt x (length s.sets))
    where
      go : Dec (x < length s.sets) → nodewise s.sets f x ≡ g x
      go (yes b) = inside f x b ∙ h x b
      go (no b) = let c : length s.sets ≤ x = omega arith in outside f x c ∙ sym (z x c)

  edges_alike : (i : ℕ) → i < N * N
      → nodewise s.sets (λ X. nodewise s.sets (λ Y. mult load (placed s.nodes s.sets) X Y) (i % N)) (i / N) ≡ flat (sources load s.nodes s.sets) (targets load s.nodes s.sets) N (load.D + load.E) i
  edges_alike i b =
      nodewise_is (λ X. nodewise s.sets (λ Y. mult load (placed s.nodes s.sets) X Y) (i % N)) (λ x. slots.mult S T m x (i % N))
      (λ x bx. nodewise_is (λ Y. mult load (placed s.nodes s.sets) (at s.sets x) Y) (λ y. slots.mult S T m x y) (λ y by. sym (mult-nodes o p x y bx by)) (λ y by. mult-outside o p x y (λ c d. omega arith)) (i % N))
      (λ x bx. mult-outside o p x (i % N) (λ c d. omega arith)) (i / N)
      ∙ sym (flat-mult S T N m (i / N) (i % N) (ends-nodes o p N few wide) (mod-lt i wide))
      ∙ ap (flat S T N m) (div-add-mod' i N)
    where
      S : List ℕ
      S = sources load s.nodes s.sets

      T : List ℕ
      T = targets load s.nodes s.sets

      m : ℕ
      m = load.D + load.E

      wide : 0 < N
      wide = square_some N i b

  nodes_alike : tab (λ i. index (at (placed s.nodes s.sets) i) s.sets) load.A ≡ s.nodes
  nodes_alike =
      sym (is_tab s.nodes load.A _ p.atoms (λ i b.
      sym (ap (λ X. index X s.sets) (placed_at s.nodes s.sets i (omega (arith, p.atoms))) ∙ index_at apart (at s.nodes i) (p.inside i b))))
    where
      apart : Distinct s.sets
      apart = record { apart = λ i j a b e. let q = p.distinct i j (omega arith) b e in omega arith }

  edges_one : square N (λ x y. nodewise s.sets (λ X. nodewise s.sets (λ Y. mult load (placed s.nodes s.sets) X Y) y) x)
      ≡ tab (flat (sources load s.nodes s.sets) (targets load s.nodes s.sets) N (load.D + load.E)) (N * N)
  edges_one = tab_alike _ _ (N * N) edges_alike

  counts_one : tab (nodewise s.sets (members load (placed s.nodes s.sets))) N ≡ tab (members load s.nodes) N
  unfolding members
  counts_one = tab_alike _ _ N (λ x b. nodewise_is (members load (placed s.nodes s.sets)) (members load s.nodes) (λ x c. sym (members-nodes p x c)) none x)
    where
      none : (x : ℕ) → length s.sets ≤ x → members load s.nodes x ≡ 0
      none x c = count-all_no _ load.A (λ i b. ne_eqb (at s.nodes i) x (λ e. omega (arith, p.inside i b)))

  component_one : tab (nodewise s.sets (λ X. ind (only (edge load (placed s.nodes s.sets)) (placed s.nodes s.sets) X))) N
      ≡ tab (λ x. ind (only (node_edge load s.nodes s.sets) (below N) x)) N
  component_one =
      tab_alike _ _ N (λ x b.
      nodewise_is (λ X. ind (only (edge load (placed s.nodes s.sets)) (placed s.nodes s.sets) X)) (λ x. ind (only (node_edge load s.nodes s.sets) (below N) x))
      (λ x c. ap ind (sym (only-nodes o p N few x c))) (λ x c. ap ind (only-outside o p N few x c)) x)

  pub bodies-nodes : bodies load N (state_of s) ≡ node_bodies load N s
  unfolding bodies node_bodies
  bodies-nodes = rw (edges_one, ← cyclic-nodes o p N few, chunk_count-nodes p N few, edge-count_cells o p N few, counts_one, component_one, nodes_alike) refl

  pub encode-nodes : (l : List ℕ) → encode load N (state_of s) l ≡ write N (node_bodies load N s) l
  unfolding encode
  encode-nodes l = ap (λ b. write N b l) bodies-nodes
