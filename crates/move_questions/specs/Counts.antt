-- Counts in another order, and what a sorted list of nodes gives the listing. Assumes nothing.
use Rattle.std.specs.Prelude.{ℕ, suc, ◌+◌, ◌-◌, ◌≤◌, ◌<◌, ◌≡◌, refl, Bool, true, false, List, length, get_or}
use Rattle.std.proofs.Common.{arith, sym, ap, subst, ◌∙◌}
use Rattle.std.proofs.Math.Decide.{dec_lt}
use Rattle.graphs.specs.Count.{ind, count, count_ext, count_add, count-all_no}
use Rattle.graphs.specs.Lists.{has, has-at}
use Rattle.graphs.specs.Total.{count-total}
use Rattle.layout.specs.Patch.{part, part_long, part_at}
use Rattle.move_ledger.specs.Graph.{Load, at}
use Rattle.move_ledger.specs.LoadLaws.{InOrder}
use Rattle.move_ledger.specs.Nodes.{Placing, node_edge}
use Rattle.move_ledger.specs.NodeWalks.{edge-inside}
use Rattle.move_ledger.specs.NodeListing.{Sorted, in_row}
use Rattle.set_order.specs.Order.{Ordered, Distinct, order_inside, order_place, order_one, order_strict}
use Rattle.move_questions.specs.Permute.{Order, total_order}

-- a count over numbers in another order
pub count_order : (p : ℕ → Bool) (o place : ℕ → ℕ) (r : ℕ) → Order o place r → count (λ q. p (o q)) r ≡ count p r
count_order p o place r h = count-total (λ q. p (o q)) r ∙ total_order (λ x. ind (p x)) o place r h ∙ sym (count-total p r)

-- nothing passes from r on
pub count-short : (p : ℕ → Bool) (r n : ℕ) → r ≤ n → ((y : ℕ) → r ≤ y → p y ≡ false) → count p n ≡ count p r
count-short p r n b h =
    let e : n ≡ r + (n - r) = omega arith in
    let z = count-all_no (λ j. p (r + j)) (n - r) (λ j l. h (r + j) (omega arith)) in
    rw e (count_add p r (n - r) ∙ (omega (arith, z)))

-- the place of a node in an order
module _ {key : ℕ → ℕ} {order : List ℕ} {r : ℕ} (o : Ordered key order r) where
  unfoldable pub place : ℕ → ℕ
  place x = go (dec_lt x r)
    where
      go : Dec (x < r) → ℕ
      go (yes h) = (order_place o x h).0
      go (no h) = 0

  placed_at : (x : ℕ) → x < r → (place x < r) × (get_or order (place x) 0 ≡ x)
  unfolding place
  placed_at x h = go (dec_lt x r)
    where
      go : (d : Dec (x < r)) → (elim d [ yes h ↦ (order_place o x h).0 | no h ↦ 0 ] < r) × (get_or order (elim d [ yes h ↦ (order_place o x h).0 | no h ↦ 0 ]) 0 ≡ x)
      go (yes b) = let s = order_place o x b in (s.1, s.2)
      go (no b) = absurd (b h)

  place-back : (q : ℕ) → q < r → place (get_or order q 0) ≡ q
  place-back q h = go (dec_lt (place (get_or order q 0)) q) (dec_lt q (place (get_or order q 0)))
    where
      s : (place (get_or order q 0) < r) × (get_or order (place (get_or order q 0)) 0 ≡ get_or order q 0)
      s = placed_at (get_or order q 0) (order_inside o q h)

      go : Dec (place (get_or order q 0) < q) → Dec (q < place (get_or order q 0)) → place (get_or order q 0) ≡ q
      go (yes b) d = absurd (order_one o _ q b h s.1)
      go (no b) (yes d) = absurd (order_one o q _ d s.0 (sym s.1))
      go (no b) (no d) = omega arith

  pub ordering : Order (λ q. get_or order q 0) place r
  ordering =
      record { number = λ q h. order_inside o q h; inside = λ x h. (placed_at x h).0; back = place-back; there = λ x h. (placed_at x h).1 }

-- the nodes of an order that has a set for each
module _ {load : Load} {nodes sets order : List ℕ} {key : ℕ → ℕ} (i : InOrder load) (p : Placing load nodes sets) (o : Ordered key order (length sets)) (keys : (x : ℕ) → x < length sets → key x ≡ at sets x) where
  pub first-at : (q : ℕ) → q < length sets → at (part 0 (length sets) order) q ≡ get_or order q 0
  first-at q h = part_at 0 (length sets) order q h ∙ ap (λ k. get_or order k 0) (native.Mathlib.Nat.zero-add q)

  distinct : Distinct key (length sets)
  distinct = record { same = λ x y bx by e. p.distinct x y bx by (sym (keys x bx) ∙ e ∙ keys y by) }

  pub sorted : Sorted nodes sets (part 0 (length sets) order)
  sorted =
      record {
        inside = λ q h. let b : q < length sets = omega (arith, part_long 0 (length sets) order) in rw (first-at q b) (order_inside o q b);
        rises = λ q h.
            let b : suc q < length sets = omega (arith, part_long 0 (length sets) order) in
            let c : q < length sets = omega arith in
            rw (first-at q c, first-at (suc q) b, ← keys (get_or order q 0) (order_inside o q c), ← keys (get_or order (suc q) 0) (order_inside o (suc q) b)) (order_strict o distinct q (suc q) (omega arith) b);
        holds = λ a h.
            let s = order_place o (at nodes a) (p.inside a (omega (arith, p.atoms))) in
            subst (λ z. has z (part 0 (length sets) order) ≡ true) (first-at s.0 s.1 ∙ s.2) (has-at (part 0 (length sets) order) s.0 (omega (arith, part_long 0 (length sets) order, s.1)));
      }

  -- how many edges start at a node of the order
  pub row_count : (n q : ℕ) → length sets ≤ n → q < length sets → in_row load nodes sets (part 0 (length sets) order) q (length sets) ≡ count (node_edge load nodes sets (get_or order q 0)) n
  row_count n q b h =
      count_ext _ (λ k. node_edge load nodes sets (get_or order q 0) (get_or order k 0)) (length sets) (λ k l. rw (first-at q h, first-at k l) refl)
      ∙ count_order (node_edge load nodes sets (get_or order q 0)) (λ k. get_or order k 0) (place o) (length sets) (ordering o)
      ∙ sym (count-short (node_edge load nodes sets (get_or order q 0)) (length sets) n b (λ y l. none y l))
    where
      none : (y : ℕ) → length sets ≤ y → node_edge load nodes sets (get_or order q 0) y ≡ false
      none y l = Rattle.graphs.specs.Bools.fails _ (λ t. let e = edge-inside i p (get_or order q 0) y t in omega (arith, e.1))
