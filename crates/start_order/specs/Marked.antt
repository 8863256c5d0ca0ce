-- After the walk from the roots exactly the wanted nodes are marked. Assumes nothing.
use Rattle.std.specs.Prelude.{ℕ, ◌≤◌, ◌<◌, ◌≡◌, refl, Bool, true, false, not, ◌&&◌, List, ltb}
use Rattle.std.proofs.Common.{arith, sym, ap, subst, ◌∙◌, inl, ⊎_elim, true≢false, lt-ltb, le-ltb}
use Rattle.std.proofs.Math.Decide.{dec_lt}
use Rattle.graphs.specs.Bools.{and_right, and_both}
use Rattle.graphs.specs.Count.{ind, ind_le}
use Rattle.graphs.specs.Lists.{has}
use Rattle.graph_neighbours.specs.Lists.{deg, nb, edge, Graph, listed}
use Rattle.graph_walks.specs.Spread.{met, stk, every, Spread, HandsOn, Done}
use Rattle.move_ledger.specs.Graph.{Load, at}
use Rattle.move_ledger.specs.Graph as graph
use Rattle.move_ledger.proofs.GraphLaws.{edge-target}
use Rattle.move_ledger.specs.Nodes.{node_edge}
use Rattle.move_area.specs.Area.{sets_in}
use Rattle.move_area.specs.Checked.{nodes_in}
use Rattle.move_questions.specs.Answers.{place_in, Checked}
use Rattle.move_order.specs.Order.{holds, wanted}
use Rattle.move_order.specs.Wanted.{wanted-first, wanted-next, wanted-all}
use Rattle.start_order.specs.Nodes.{placing, long, few, atoms, chunk_node, same-edge, edge-ends}
use Rattle.start_order.specs.Roots.{Roots}

-- a node below r is marked 1 where its set is wanted, else 0
pub record Marked (load : Load) (n : ℕ) (area : List ℕ) (r b : ℕ) (marks : List ℕ) : Type 0 where
  pub mark_at : (x : ℕ) → x < r → at marks x ≡ ind (wanted load (place_in load n area) b (at (sets_in n area) x))

-- the roots are the nodes that have an atom and whose set holds the bit
pub record Picks (load : Load) (n : ℕ) (area : List ℕ) (r b : ℕ) (p : ℕ → Bool) : Type 0 where
  pub chunk : (x : ℕ) → x < r → p x ≡ true → (has (at (sets_in n area) x) (place_in load n area) ≡ true) × (holds b (at (sets_in n area) x) ≡ true)
  pub taken : (i : ℕ) → i < load.A → holds b (at (sets_in n area) (at (nodes_in load n area) i)) ≡ true → p (at (nodes_in load n area) i) ≡ true

module _ {load : Load} {n : ℕ} {area : List ℕ} {r b : ℕ} {p : ℕ → Bool} (h : Checked load n area r) (picks : Picks load n area r b p)
    {heads list : List ℕ} (g : Graph heads list n) (same : edge heads list n ≡ node_edge load (nodes_in load n area) (sets_in n area))
    {marks stack marks' stack' : List ℕ} {height : ℕ} (roots : Roots p n r marks stack height)
    (done : Done (edge heads list n) n (deg heads) (nb heads list) every 1 marks stack height marks' stack' 0) where
  abbrev want : ℕ → Bool
  want x = wanted load (place_in load n area) b (at (sets_in n area) x)

  abbrev may : ℕ → Bool
  may x = ltb x r && want x

  abbrev none : ℕ → Bool
  none x = false

  edge_is : (x y : ℕ) → edge heads list n x y ≡ node_edge load (nodes_in load n area) (sets_in n area) x y
  edge_is x y = ap (λ (e : ℕ → ℕ → Bool). e x y) same

  root_may : (x : ℕ) → x < r → p x ≡ true → may x ≡ true
  root_may x c q = let w = picks.chunk x c q in and_both (ltb x r) _ (lt-ltb x r c) (wanted-first load (place_in load n area) b _ w.0 w.1)

  hands : HandsOn (edge heads list n) none may
  hands x y m e _ =
      let i = sym (edge_is x y) ∙ e in
      let q = edge-ends h x y i in
      and_both (ltb y r) _ (lt-ltb y r q.1)
      (wanted-next load (place_in load n area) b (atoms h) _ _ (and_right (ltb x r) _ m) (same-edge h x y q.0 q.1 ∙ i))

  met_one : (l : List ℕ) (x : ℕ) → 1 ≤ at l x → met 1 l x ≡ 1
  met_one l x q = ap (λ t. ind (not t)) (le-ltb (at l x) 1 q)

  one_met : (l : List ℕ) (x : ℕ) → met 1 l x ≡ 1 → 1 ≤ at l x
  one_met l x q = elim (dec_lt (at l x) 1) [ yes c ↦ absurd (omega (arith, ap (λ t. ind (not t)) (lt-ltb (at l x) 1 c))) | no c ↦ omega arith ]

  -- a marked node is a root
  root : (x : ℕ) → x < n → met 1 marks x ≡ 1 → (x < r) × (p x ≡ true)
  root x c q = elim (dec_lt x r) [
    | yes l ↦ (l, yes? (p x) (roots.marked x l))
    | no l ↦ absurd (omega (arith, one_met marks x q, roots.beyond x (omega arith) c))
  ]
    where
      yes? : (t : Bool) → at marks x ≡ ind t → t ≡ true
      yes? true e = refl
      yes? false e = absurd (omega (arith, one_met marks x q))

  begun : Spread n (deg heads) (nb heads list) every none may (met 1 marks) (stk stack) height n 0
  begun = record {
    node = λ j c. roots.ready.node j c;
    met = λ j c. let q = roots.of_stack j c in met_one marks (at stack j) (omega (arith, roots.marked (at stack j) q.0 ∙ ap ind q.1));
    live = λ j c. let q = roots.of_stack j c in root_may (at stack j) q.0 q.1;
    old = λ x c e. absurd (true≢false (sym e));
    from = λ x c m o. let q = root x c m in root_may x q.0 q.1;
    part = λ i c. absurd (omega arith);
    shut = λ x c m o. let q = root x c m in inl (roots.on_stack x q.0 q.1);
  }

  ended : Spread n (deg heads) (nb heads list) every none may (met 1 marks') (stk stack') 0 n 0
  ended = done.state none may hands begun

  -- what is marked stays marked, and marks are 0 or 1
  stays : (x : ℕ) → met 1 marks x ≡ 1 → met 1 marks' x ≡ 1
  stays x q = let c = one_met marks x q in met_one marks' x (omega (arith, done.kept.stay x c))

  step-out : (x y : ℕ) → x < n → met 1 marks' x ≡ 1 → edge heads list n x y ≡ true → met 1 marks' y ≡ 1
  step-out x y c m e =
      ⊎_elim (λ q. absurd (omega (arith, q.1)))
      (λ q. let w = (listed g).find x y e in subst (λ z. met 1 marks' z ≡ 1) w.2 (q w.0 w.1 refl (λ z. absurd (omega arith))))
      (ended.shut x c m refl)

  -- a wanted set has a marked node
  reached : (X : ℕ) → wanted load (place_in load n area) b X ≡ true → (x : ℕ) × (x < r) × (at (sets_in n area) x ≡ X) × (met 1 marks' x ≡ 1)
  reached = wanted-all load (place_in load n area) b (atoms h) (λ X. (x : ℕ) × (x < r) × (at (sets_in n area) x ≡ X) × (met 1 marks' x ≡ 1)) first next
    where
      first : (X : ℕ) → has X (place_in load n area) ≡ true → holds b X ≡ true → (x : ℕ) × (x < r) × (at (sets_in n area) x ≡ X) × (met 1 marks' x ≡ 1)
      first X m q =
          let w = chunk_node h X m in
          let x : ℕ = at (nodes_in load n area) w.0 in
          let t = picks.taken w.0 w.1 (ap (holds b) w.3 ∙ q) in
          (x, w.2, w.3, stays x (met_one marks x (omega (arith, roots.marked x w.2 ∙ ap ind t))))

      next : (X Y : ℕ) → (x : ℕ) × (x < r) × (at (sets_in n area) x ≡ X) × (met 1 marks' x ≡ 1) → graph.edge load (place_in load n area) X Y ≡ true
          → (x : ℕ) × (x < r) × (at (sets_in n area) x ≡ Y) × (met 1 marks' x ≡ 1)
      next X Y w e =
          let v = chunk_node h Y (edge-target load (place_in load n area) (atoms h) X Y e) in
          let y : ℕ = at (nodes_in load n area) v.0 in
          let i : node_edge load (nodes_in load n area) (sets_in n area) w.0 y ≡ true
          = sym (same-edge h w.0 y w.1 v.2) ∙ ap (λ Z. graph.edge load (place_in load n area) Z (at (sets_in n area) y)) w.2
          ∙ ap (graph.edge load (place_in load n area) X) v.3 ∙ e in
          (y, v.2, v.3, step-out w.0 y (omega (arith, w.1, few h)) w.3 (edge_is w.0 y ∙ i))

  pub all-marked : Marked load n area r b marks'
  all-marked = record { mark_at = λ x c. go x c (want x) refl }
    where
      -- a mark is 0 or 1
      small : (x : ℕ) → x < r → 1 ≤ at marks' x → at marks' x ≡ 1
      small x c q = elim (dec_lt (at marks x) 1) [
        | yes l ↦ done.kept.new x l q
        | no l ↦ omega (arith, done.kept.stay x (omega arith), roots.marked x c, ind_le (p x))
      ]

      go : (x : ℕ) → x < r → (t : Bool) → want x ≡ t → at marks' x ≡ ind t
      go x c true q =
          let w = reached (at (sets_in n area) x) q in
          let e : w.0 ≡ x = (placing h).distinct w.0 x (omega (arith, w.1, long h)) (omega (arith, long h)) w.2 in
          small x c (one_met marks' x (subst (λ z. met 1 marks' z ≡ 1) e w.3))
      go x c false q = elim (dec_lt (at marks' x) 1) [
        | yes l ↦ omega arith
        | no l ↦ absurd (true≢false (sym (and_right (ltb x r) _ (ended.from x (omega (arith, few h)) (met_one marks' x (omega arith)) refl)) ∙ q))
      ]
