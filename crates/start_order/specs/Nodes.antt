-- A checked area as the setting of the turns. Assumes nothing.
use Rattle.std.specs.Prelude.{ℕ, ◌-◌, ◌<◌, ◌≡◌, refl, Bool, ◌&&◌, List, [], ltb, length, take}
use Rattle.std.proofs.Common.{arith, ◌∙◌}
use Rattle.std.proofs.Math.Path.{sym, ap}
use Rattle.std.proofs.lemmas.List.{length-take-le, get_or-take}
use Rattle.std.proofs.Math.Bool.{true, false, true≢false}
use Rattle.graphs.specs.Count.{ind, count_ext}
use Rattle.graphs.specs.Lists.{any, has, has-place}
use Rattle.graphs.specs.Slots.{slot_edge}
use Rattle.set_order.specs.Order.{lane_set, order_inside, order_place}
use Rattle.move_ledger.specs.Graph.{Load, at, edge, rising}
use Rattle.move_ledger.proofs.GraphLaws.{edge-target}
use Rattle.move_ledger.specs.Listing.{rising-rising, has-rising}
use Rattle.move_ledger.specs.Nodes.{node_edge}
use Rattle.move_ledger.specs.NodeLaws.{placed-length, placed_at}
use Rattle.move_ledger.specs.NodeWalks.{edge-inside}
use Rattle.move_ledger.proofs.NodeWalks.{mult-nodes}
use Rattle.move_area.specs.Area.{sets_in, decode}
use Rattle.move_area.specs.Checked.{nodes_in}
use Rattle.move_questions.proofs.Asking as asking
pub use Rattle.move_questions.proofs.Asking.{order_of, placing, long, few, cell-edge}
use Rattle.move_questions.specs.Answers.{place_in, set_lane, Checked, Listable}
use Rattle.move_order.specs.Order.{wanted, listing}
use Rattle.move_order.specs.Wanted.{wanted-inside}
use Rattle.start_order.specs.Turns.{Setting, Fits, Row, Turn}

-- the chunks for bit b on an area, and the registered nodes
abbrev pub setting : Load → ℕ → List ℕ → ℕ → Setting
setting load n area b = record {
  over = edge load (place_in load n area);
  wanted = wanted load (place_in load n area) b;
  chunks = rising (place_in load n area);
  set = at (sets_in n area);
  edge = node_edge load (nodes_in load n area) (sets_in n area);
}

module _ {load : Load} {n : ℕ} {area : List ℕ} {r : ℕ} (h : Checked load n area r) where
  pub atoms : length (place_in load n area) ≡ load.A
  unfolding decode
  atoms = placed-length (nodes_in load n area) (sets_in n area) ∙ (placing h).atoms

  pub place_at : (i : ℕ) → i < load.A → at (place_in load n area) i ≡ at (sets_in n area) (at (nodes_in load n area) i)
  unfolding decode
  place_at i b = placed_at (nodes_in load n area) (sets_in n area) i (omega (arith, (placing h).atoms))

  -- the set of a node
  pub set_at : (x : ℕ) → x < r → lane_set area (set_lane n) n x ≡ at (sets_in n area) x
  set_at x b = asking.set_at h x (omega (arith, long h))

  -- a chunk is the set of an atom's node
  pub chunk_node : (X : ℕ) → has X (place_in load n area) ≡ true → (i : ℕ) × (i < load.A) × (at (nodes_in load n area) i < r) × (at (sets_in n area) (at (nodes_in load n area) i) ≡ X)
  chunk_node X m =
      let q = has-place X (place_in load n area) m in
      let b : q.0 < load.A = omega (arith, q.1, atoms) in
      (q.0, b, omega (arith, (placing h).inside q.0 b, long h), sym (place_at q.0 b) ∙ q.2)

  -- the edges between nodes are those between their sets
  pub same-edge : (x y : ℕ) → x < r → y < r → edge load (place_in load n area) (at (sets_in n area) x) (at (sets_in n area) y) ≡ node_edge load (nodes_in load n area) (sets_in n area) x y
  unfolding decode edge slot_edge
  same-edge x y a b = ap (ltb 0) (sym (mult-nodes (order_of h) (placing h) x y (omega (arith, long h)) (omega (arith, long h))))

  pub edge-ends : (x y : ℕ) → node_edge load (nodes_in load n area) (sets_in n area) x y ≡ true → (x < r) × (y < r)
  edge-ends x y e = let q = edge-inside (order_of h) (placing h) x y e in (omega (arith, q.0, long h), omega (arith, q.1, long h))

  pub fits : (b : ℕ) → Fits (setting load n area b) r
  fits b = record {
    rises = rising-rising (place_in load n area);
    node = λ X m. let q = chunk_node X (sym (has-rising X (place_in load n area)) ∙ m) in (at (nodes_in load n area) q.0, q.2, q.3);
    member = λ x w. has-rising _ (place_in load n area) ∙ wanted-inside load (place_in load n area) b _ w;
    apart = λ x y c d e. (placing h).distinct x y (omega (arith, long h)) (omega (arith, long h)) e;
    same = same-edge;
    inside = λ x y e. (edge-ends x y e).1;
    target = λ x y e.
        let q = edge-ends x y e in
        has-rising _ (place_in load n area) ∙ edge-target load (place_in load n area) atoms (at (sets_in n area) x) (at (sets_in n area) y) (same-edge x y q.0 q.1 ∙ e);
  }

module _ {load : Load} {n : ℕ} {area : List ℕ} {r : ℕ} {order degrees : List ℕ} (h : Listable load n area r order degrees) (b : ℕ) where
  -- as many numbers of the order as there are nodes
  pub row_long : length (take r order) ≡ r
  row_long = length-take-le r order h.order_long

  pub row : Row (setting load n area b) r order
  row = record {
    node = order_inside h.ordered;
    place = order_place h.ordered;
    rise = λ i j l c.
        omega (arith, h.ordered.rise i j l c, set_at h.checked (at order i) (order_inside h.ordered i (omega arith)), set_at h.checked (at order j) (order_inside h.ordered j c));
  }

  pub row_front : Row (setting load n area b) r (take r order)
  row_front = record {
    node = λ i c. rw (front i c) (order_inside h.ordered i c);
    place = λ x c. let p = order_place h.ordered x c in (p.0, p.1, front p.0 p.1 ∙ p.2);
    rise = λ i j l c.
        rw (front i (omega arith), front j c)
        (omega (arith, h.ordered.rise i j l c, set_at h.checked (at order i) (order_inside h.ordered i (omega arith)), set_at h.checked (at order j) (order_inside h.ordered j c)));
  }
    where
      front : (i : ℕ) → i < r → at (take r order) i ≡ at order i
      front i c = get_or-take r order i 0 c

  -- before the first turn
  pub turn-none : {marks : List ℕ} → ((x : ℕ) → x < r → at marks x ≡ ind (wanted load (place_in load n area) b (at (sets_in n area) x))) → Turn (setting load n area b) n r load.A 0 [] marks degrees
  unfolding has any
  turn-none m = record {
    most = omega arith;
    many = refl;
    inside = λ x q. absurd (no q);
    wanted = λ x q. absurd (no q);
    goes = ap (λ k. listing (edge load (place_in load n area)) (wanted load (place_in load n area) b) (rising (place_in load n area)) k []) {x = load.A} {y = load.A - 0} (omega arith);
    mark_at = m;
    degree_at = λ x c. h.degree_at x (omega (arith, few h.checked)) ∙ count_ext _ _ n (λ y d. sym (last (node_edge load (nodes_in load n area) (sets_in n area) x y)));
  }
    where
      no : false ≡ true → ⊥
      no q = true≢false (sym q)

      last : (t : Bool) → (t && true) ≡ t
      last true = refl
      last false = refl
