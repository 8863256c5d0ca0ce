-- For the code: the number of chunks and of distinct edges, counted by nodes, and how a move changes them. Assumes nothing.
use Rattle.std.specs.Prelude.{ℕ, zero, suc, ◌+◌, ◌-◌, ◌*◌, ◌≤◌, ◌<◌, ◌≡◌, refl, Bool, true, false, not, ◌&&◌, List, [], ◌∷◌, set}
use Rattle.std.proofs.Common.{arith, ap₂, subst, ◌∙◌, length-set, get_or-set_same, get_or-set_other, ext_get_or}
use Rattle.std.proofs.Math.Decide.{ℕ_discrete, dec_lt}
use Rattle.std.proofs.Math.Path.{sym, ap}
use Rattle.std.proofs.Math.Bool.{cond}
use Rattle.std.proofs.Math.Dec.{ltb, eqb}
use Rattle.std.proofs.Math.ListN.{length}
use borrow.Author.Tests.{eq-eqb, ne_eqb, lt-ltb, le-ltb}
use Rattle.graphs.specs.Count.{ind, count, count_ext, count-all_no, count_pos, count_add}
use Rattle.graphs.specs.Total.{total, total-same, total_change, count-total}
use Rattle.graphs.specs.Tab.{tab, tab-at}
use Rattle.graphs.specs.Slots.{flat, slot_edge}
use Rattle.graphs.specs.SlotLaws.{flat-mult}
use Rattle.move_ledger.specs.Graph.{Load, at, members, occupied, rising, sum}
use Rattle.move_ledger.specs.LoadLaws.{InOrder}
use Rattle.move_ledger.specs.Nodes.{placed, Placing, sources, targets, node_edge}
use Rattle.move_ledger.specs.NodeWalks.{ends-nodes}
use Rattle.move_ledger.specs.Chunks.{chunk_sum, rows-total}

-- how many of n nodes have an atom
unfoldable pub busy_nodes : Load → List ℕ → ℕ → ℕ
busy_nodes load nodes n = count (occupied load nodes) n

-- how many cells of a square of n rows the slots fill
unfoldable pub filled_cells : List ℕ → List ℕ → ℕ → ℕ → ℕ
filled_cells s t n m = count (λ i. ltb 0 (flat s t n m i)) (n * n)

sum_ones : (l : List ℕ) → sum (λ X. 1) l ≡ length l
unfolding sum
sum_ones [] = refl
sum_ones (x ∷ l) = omega (arith, sum_ones l)

one_or_none : (t : Bool) → cond t 1 0 ≡ ind t
one_or_none true = refl
one_or_none false = refl

-- there are as many occupied sets as nodes that have an atom
pub chunk_count-nodes : {load : Load} {nodes sets : List ℕ} → Placing load nodes sets → (n : ℕ) → length sets ≤ n → length (rising (placed nodes sets)) ≡ busy_nodes load nodes n
unfolding busy_nodes
chunk_count-nodes {load} {nodes} {sets} p n few =
    sym (sum_ones (rising (placed nodes sets))) ∙ chunk_sum p (λ X. 1) n few ∙ total-same _ _ n (λ x b. one_or_none (occupied load nodes x)) ∙ sym (count-total (occupied load nodes) n)

-- there are as many distinct edges as cells that aren't 0
module _ {load : Load} {nodes sets : List ℕ} (o : InOrder load) (p : Placing load nodes sets) (n : ℕ) (few : length sets ≤ n) where
  abbrev pub m : ℕ
  m = load.D + load.E

  -- and the sum of how many nodes each node has an edge to
  pub degrees_cells : (f : ℕ → ℕ) → ((x : ℕ) → x < n → f x ≡ count (node_edge load nodes sets x) n) → total f n ≡ filled_cells (sources load nodes sets) (targets load nodes sets) n m
  unfolding filled_cells slot_edge
  degrees_cells f h =
      total-same _ _ n (λ x hx.
      h x hx ∙ count-total (node_edge load nodes sets x) n
      ∙ total-same _ _ n (λ y hy. ap (λ k. ind (ltb 0 k)) (sym (flat-mult _ _ n m x y (ends-nodes o p n few (omega arith)) hy))))
      ∙ sym (rows-total (λ i. ind (ltb 0 (flat (sources load nodes sets) (targets load nodes sets) n m i))) n n)
      ∙ sym (count-total (λ i. ltb 0 (flat (sources load nodes sets) (targets load nodes sets) n m i)) (n * n))

above : (k : ℕ) → (ltb 0 (suc k) ≡ true) × (eqb (suc k) 0 ≡ false)
above k = (lt-ltb 0 (suc k) (omega arith), ne_eqb (suc k) 0 (λ e. omega arith))

-- a number above 0 isn't 0
pub above_none : (k : ℕ) → ltb 0 k ≡ not (eqb k 0)
above_none zero = refl
above_none (suc k) = (above k).0 ∙ sym (ap not (above k).1)

count-full : (p : ℕ → Bool) (k : ℕ) → ((x : ℕ) → x < k → p x ≡ true) → count p k ≡ k
unfolding count
count-full p zero h = refl
count-full p (suc k) h = rw (h k (omega arith)) (omega (arith, count-full p k (λ x b. h x (omega arith))))

-- with a node of its own for each atom, as many nodes have one as there are atoms
pub busy-first : (load : Load) (n : ℕ) → load.A ≤ n → busy_nodes load (tab (λ i. i) load.A) n ≡ load.A
unfolding busy_nodes members
busy-first load n few = count_ext _ (λ x. ltb x load.A) n (λ x b. go x (dec_lt x load.A)) ∙ ap (count (λ x. ltb x load.A)) (sym split) ∙ count_add (λ x. ltb x load.A) load.A (n - load.A) ∙ both
  where
    go : (x : ℕ) → Dec (x < load.A) → occupied load (tab (λ i. i) load.A) x ≡ ltb x load.A
    go x (yes b) =
        lt-ltb 0 _ (count_pos (λ i. eqb (at (tab (λ i. i) load.A) i) x) load.A x b (eq-eqb _ x (tab-at (λ i. i) load.A x b))) ∙ sym (lt-ltb x load.A b)
    go x (no b) =
        ap (ltb 0) (count-all_no (λ i. eqb (at (tab (λ i. i) load.A) i) x) load.A (λ i c. ne_eqb _ x (λ e. b (subst (λ k. k < load.A) (sym (tab-at (λ i. i) load.A i c) ∙ e) c))))
        ∙ sym (le-ltb x load.A (omega arith))

    split : load.A + (n - load.A) ≡ n
    split = omega arith

    both : count (λ x. ltb x load.A) load.A + count (λ j. ltb (load.A + j) load.A) (n - load.A) ≡ load.A
    both = omega (arith, count-full (λ x. ltb x load.A) load.A (λ x b. lt-ltb x load.A b), count-all_no (λ j. ltb (load.A + j) load.A) (n - load.A) (λ j b. le-ltb (load.A + j) load.A (omega arith)))

-- edges that come and go: f before, g after
pub cells_moved : (f g : ℕ → ℕ) (k : ℕ)
    → count (λ i. ltb 0 (g i)) k + count (λ i. eqb (g i) 0 && ltb 0 (f i)) k ≡ count (λ i. ltb 0 (f i)) k + count (λ i. eqb (f i) 0 && ltb 0 (g i)) k
unfolding count
cells_moved f g zero = refl
cells_moved f g (suc k) = omega (arith, cells_moved f g k, here (f k) (g k))
  where
    here : (a b : ℕ) → ind (ltb 0 b) + ind (eqb b 0 && ltb 0 a) ≡ ind (ltb 0 a) + ind (eqb a 0 && ltb 0 b)
    here zero zero = refl
    here zero (suc b) = rw ((above b).0, (above b).1) refl
    here (suc a) zero = rw ((above a).0, (above a).1) refl
    here (suc a) (suc b) = rw ((above a).0, (above a).1, (above b).0, (above b).1) refl

-- two tests that differ at most at x and y
count_two : (p q : ℕ → Bool) (k x y : ℕ) → x < k → y < k → (x ≡ y → ⊥) → ((z : ℕ) → z < k → (z ≡ x → ⊥) → (z ≡ y → ⊥) → q z ≡ p z)
    → count q k + ind (p x) + ind (p y) ≡ count p k + ind (q x) + ind (q y)
count_two p q k x y hx hy ne same =
    omega (
      arith,
      count-total p k,
      count-total q k,
      total_change (λ z. ind (p z)) (λ z. cond (eqb z x) (ind (q z)) (ind (p z))) k x hx (λ z b d. rw (ne_eqb z x d) refl),
      total_change (λ z. cond (eqb z x) (ind (q z)) (ind (p z))) (λ z. ind (q z)) k y hy (λ z b d. late z b d (ℕ_discrete z x)),
      at_x,
      at_y,
    )
  where
    at_x : cond (eqb x x) (ind (q x)) (ind (p x)) ≡ ind (q x)
    at_x = rw (eq-eqb x x refl) refl

    at_y : cond (eqb y x) (ind (q y)) (ind (p y)) ≡ ind (p y)
    at_y = rw (ne_eqb y x (λ e. ne (sym e))) refl

    late : (z : ℕ) → z < k → (z ≡ y → ⊥) → Dec (z ≡ x) → ind (q z) ≡ cond (eqb z x) (ind (q z)) (ind (p z))
    late z b d (yes e) = rw (eq-eqb z x e) refl
    late z b d (no e) = rw (ne_eqb z x e) (ap ind (same z b e d))

-- an atom moved from x to y: the nodes that have an atom are one more where y had none, one fewer where x has none left
pub busy-moved : (load : Load) (nodes : List ℕ) (a y n : ℕ) → length nodes ≡ load.A → a < load.A → at nodes a < n → y < n
    → busy_nodes load (set nodes a y) n + ind (eqb (members load (set nodes a y) (at nodes a)) 0) ≡ busy_nodes load nodes n + ind (eqb (members load nodes y) 0)
unfolding busy_nodes members
busy-moved load nodes a y n long ha hx hy = go (ℕ_discrete (at nodes a) y)
  where
    x : ℕ
    x = at nodes a

    was : 1 ≤ count (λ i. eqb (at nodes i) x) load.A
    was = count_pos (λ i. eqb (at nodes i) x) load.A a ha (eq-eqb x x refl)

    put : at (set nodes a y) a ≡ y
    put = get_or-set_same nodes a y 0 (omega arith)

    is : 1 ≤ count (λ i. eqb (at (set nodes a y) i) y) load.A
    is = count_pos (λ i. eqb (at (set nodes a y) i) y) load.A a ha (eq-eqb _ y put)

    some : (k : ℕ) → 1 ≤ k → (ind (ltb 0 k) ≡ 1) × (ind (eqb k 0) ≡ 0)
    some zero h = absurd (omega arith)
    some (suc k) h = (ap ind (above k).0, ap ind (above k).1)

    turn : (k : ℕ) → ind (eqb k 0) + ind (ltb 0 k) ≡ 1
    turn zero = refl
    turn (suc k) = rw ((above k).0, (above k).1) refl

    other : (z : ℕ) → (z ≡ x → ⊥) → (z ≡ y → ⊥) → count (λ i. eqb (at (set nodes a y) i) z) load.A ≡ count (λ i. eqb (at nodes i) z) load.A
    other z d e = count_ext _ _ load.A (λ i b. each i (ℕ_discrete i a))
      where
        each : (i : ℕ) → Dec (i ≡ a) → eqb (at (set nodes a y) i) z ≡ eqb (at nodes i) z
        each i (yes q) = rw (q, put, ne_eqb y z (λ r. e (sym r)), ne_eqb (at nodes a) z (λ r. d (sym r))) refl
        each i (no q) = ap (λ k. eqb k z) (get_or-set_other nodes a i y 0 q)

    go : Dec (x ≡ y)
        → count (occupied load (set nodes a y)) n + ind (eqb (count (λ i. eqb (at (set nodes a y) i) x) load.A) 0) ≡ count (occupied load nodes) n + ind (eqb (count (λ i. eqb (at nodes i) y) load.A) 0)
    go (yes e) = ap₂ (λ (u : List ℕ) v. count (occupied load u) n + ind (eqb (count (λ i. eqb (at u i) v) load.A) 0)) stay e
      where
        each : (i : ℕ) → Dec (i ≡ a) → at (set nodes a y) i ≡ at nodes i
        each i (yes q) = ap (at (set nodes a y)) q ∙ put ∙ sym e ∙ ap (at nodes) (sym q)
        each i (no q) = get_or-set_other nodes a i y 0 q

        stay : set nodes a y ≡ nodes
        stay = ext_get_or 0 (set nodes a y) nodes (length-set nodes a y) (λ i b. each i (ℕ_discrete i a))
    go (no e) =
        let t = count_two (occupied load nodes) (occupied load (set nodes a y)) n x y hx hy e (λ z b d f. ap (ltb 0) (other z d f)) in
        omega (arith, t, (some _ was).0, (some _ is).0, turn (count (λ i. eqb (at (set nodes a y) i) x) load.A), turn (count (λ i. eqb (at nodes i) y) load.A))
