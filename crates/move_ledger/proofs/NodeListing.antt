-- Theorems on the definitions of specs/NodeListing: they stand here, so that the crate can be read with a definition changed. Assumes nothing.
use Rattle.std.specs.Prelude.{ℕ, suc, ◌+◌, ◌≤◌, ◌<◌, ◌≡◌, refl, Bool, true, List, ltb, length}
use Rattle.std.proofs.Common.{arith, sym, ap₂, subst, ◌∙◌}
use Rattle.std.proofs.Math.Path.{ap}
use Rattle.graphs.specs.Count.{count, count_ext, count_mono, count_yes}
use Rattle.graphs.specs.Lists.{has, has-at, has-place}
use Rattle.graphs.specs.Slots.{slot_edge}
use Rattle.graphs.specs.Total.{total, total-same}
use Rattle.move_ledger.specs.Graph.{Load, at, mult, edge, row, rows, edges}
use Rattle.move_ledger.specs.LoadLaws.{InOrder}
use Rattle.move_ledger.specs.Answer as answer
use Rattle.move_ledger.specs.Ledger.{kth}
use Rattle.move_ledger.specs.Edges.{rising_of, row-length, rows-length, kth-row, kth-rows, kth_past}
use Rattle.move_ledger.proofs.Edges.{edges-over}
use Rattle.move_ledger.specs.Nodes.{placed, Placing, node_edge, node_mult}
use Rattle.move_ledger.specs.NodeLaws.{placed-length, placed_at}
use Rattle.move_ledger.proofs.NodeWalks.{mult-nodes}
use Rattle.move_ledger.specs.NodeListing.{Sorted, in_row, in_rows}

module _ {load : Load} {nodes sets order : List ℕ} (o : InOrder load) (p : Placing load nodes sets) (s : Sorted nodes sets order) where
  long : length (placed order sets) ≡ length order
  long = placed-length order sets

  listed : rows load (placed nodes sets) (placed order sets) (placed order sets) ≡ edges load (placed nodes sets)
  listed =
      edges-over load (placed nodes sets) (placed-length nodes sets ∙ p.atoms)
      (rising_of 0 (placed order sets) (λ i h. omega arith)
      (λ i h.
      let k : suc i < length order = subst (λ n. suc i < n) long h in
      let l : i < length order = omega arith in
      rw (placed_at order sets i l, placed_at order sets (suc i) k) (s.rises i k)))
      here
    where
      here : (X : ℕ) → has X (placed nodes sets) ≡ true → has X (placed order sets) ≡ true
      here X h =
          let r = has-place X (placed nodes sets) h in
          let b : r.0 < length nodes = subst (λ n. r.0 < n) (placed-length nodes sets) r.1 in
          let q = has-place (at nodes r.0) order (s.holds r.0 b) in
          subst (λ Z. has Z (placed order sets) ≡ true) (placed_at order sets q.0 q.1 ∙ ap (at sets) q.2 ∙ sym (placed_at nodes sets r.0 b) ∙ r.2)
          (has-at (placed order sets) q.0 (omega (arith, q.1, long)))

  mult-at : (i j : ℕ) → i < length order → j < length order → mult load (placed nodes sets) (at (placed order sets) i) (at (placed order sets) j) ≡ node_mult load nodes sets (at order i) (at order j)
  mult-at i j a b =
      ap₂ (λ X Y. mult load (placed nodes sets) X Y) (placed_at order sets i a) (placed_at order sets j b) ∙ sym (mult-nodes o p (at order i) (at order j) (s.inside i a) (s.inside j b))

  edge_at : (i j : ℕ) → i < length order → j < length order → edge load (placed nodes sets) (at (placed order sets) i) (at (placed order sets) j) ≡ node_edge load nodes sets (at order i) (at order j)
  unfolding edge slot_edge
  edge_at i j a b = ap (ltb 0) (mult-at i j a b)

  row-to : (i j : ℕ) → i < length order → j ≤ length order
      → count (λ k. edge load (placed nodes sets) (at (placed order sets) i) (at (placed order sets) k)) j ≡ in_row load nodes sets order i j
  row-to i j a b = count_ext _ _ j (λ k h. edge_at i k a (omega arith))

  row-size : (i : ℕ) → i < length order → length (row load (placed nodes sets) (at (placed order sets) i) (placed order sets)) ≡ in_row load nodes sets order i (length order)
  row-size i a = row-length load (placed nodes sets) (at (placed order sets) i) (placed order sets) ∙ ap (λ n. count (λ k. edge load (placed nodes sets) (at (placed order sets) i) (at (placed order sets) k)) n) long ∙ row-to i (length order) a (omega arith)

  rows-to : (i : ℕ) → i ≤ length order → total (λ k. length (row load (placed nodes sets) (at (placed order sets) k) (placed order sets))) i ≡ in_rows load nodes sets order i
  rows-to i a = total-same _ _ i (λ k h. row-size k (omega arith))

  -- the number of distinct edges
  pub edge-count-nodes : length (edges load (placed nodes sets)) ≡ in_rows load nodes sets order (length order)
  edge-count-nodes =
      ap length (sym listed) ∙ rows-length load (placed nodes sets) (placed order sets) (placed order sets)
      ∙ ap (λ n. total (λ k. length (row load (placed nodes sets) (at (placed order sets) k) (placed order sets))) n) long ∙ rows-to (length order) (omega arith)

  -- the k-th edge, from 0, by rising source set, then target set
  pub edge-at-nodes : (i j : ℕ) → i < length order → j < length order → node_edge load nodes sets (at order i) (at order j) ≡ true
      → kth (edges load (placed nodes sets)) (in_rows load nodes sets order i + in_row load nodes sets order i j)
      ≡ answer.edge (record { from = at sets (at order i); to = at sets (at order j); multiplicity = node_mult load nodes sets (at order i) (at order j) })
  edge-at-nodes i j a b h =
      ap₂ (λ es k. kth es k) (sym listed) (ap₂ ◌+◌ (sym (rows-to i (omega arith))) (sym (row-to i j a (omega arith))))
      ∙ kth-rows load (placed nodes sets) (placed order sets) (placed order sets) i _ (omega (arith, long)) fits
      ∙ kth-row load (placed nodes sets) (at (placed order sets) i) (placed order sets) j (omega (arith, long)) (edge_at i j a b ∙ h)
      ∙ same
    where
      fits : count (λ k. edge load (placed nodes sets) (at (placed order sets) i) (at (placed order sets) k)) j < length (row load (placed nodes sets) (at (placed order sets) i) (placed order sets))
      fits =
          let f : ℕ → Bool = λ k. node_edge load nodes sets (at order i) (at order k) in
          let z : in_row load nodes sets order i (j + 1) ≡ in_row load nodes sets order i j + 1 = count_yes f j h in
          omega (arith, row-to i j a (omega arith), row-size i a, z, count_mono f (j + 1) (length order) (omega arith))

      same : answer.edge (record { from = at (placed order sets) i; to = at (placed order sets) j; multiplicity = mult load (placed nodes sets) (at (placed order sets) i) (at (placed order sets) j) })
          ≡ answer.edge (record { from = at sets (at order i); to = at sets (at order j); multiplicity = node_mult load nodes sets (at order i) (at order j) })
      same = rw (mult-at i j a b, placed_at order sets i a, placed_at order sets j b) refl

  -- past the last edge there is none
  pub edge_past_nodes : (k : ℕ) → in_rows load nodes sets order (length order) ≤ k → kth (edges load (placed nodes sets)) k ≡ answer.none
  edge_past_nodes k h = kth_past (edges load (placed nodes sets)) k (omega (arith, edge-count-nodes))
