-- Theorems on the definitions of specs/Totals: they stand here, so that the crate can be read with a definition changed. Assumes nothing.
use Rattle.std.specs.Prelude.{ℕ, ◌*◌, ◌≤◌, ◌<◌, ◌≡◌, refl, Bool, true, false, List}
use Rattle.std.proofs.Common.{arith, subst, ◌∙◌}
use Rattle.std.proofs.Math.Decide.{dec_lt}
use Rattle.std.proofs.Math.Path.{sym, ap}
use Rattle.std.proofs.Math.Bool.{cond}
use Rattle.std.proofs.Math.Dec.{ltb, eqb}
use Rattle.std.proofs.Math.ListN.{length}
use borrow.Author.Tests.{ne_eqb}
use Rattle.graphs.specs.Count.{ind, count-all_no}
use Rattle.graphs.specs.Total.{total-same, count-total}
use Rattle.graphs.specs.Lists.{has, has-place}
use Rattle.graphs.specs.Slots.{flat}
use Rattle.graphs.specs.SlotLaws.{flat-mult}
use Rattle.move_ledger.specs.Graph.{Load, at, members, occupied, mult, edge, rising, edges, sum}
use Rattle.move_ledger.specs.GraphLaws.{occupy}
use Rattle.move_ledger.proofs.GraphLaws.{edge-source, edge-target}
use Rattle.move_ledger.specs.LoadLaws.{InOrder}
use Rattle.move_ledger.specs.Nodes.{placed, Placing, sources, targets, node_mult}
use Rattle.move_ledger.specs.NodeLaws.{placed-length, members-nodes}
use Rattle.move_ledger.specs.NodeWalks.{mult-outside, ends-nodes}
use Rattle.move_ledger.proofs.NodeWalks.{mult-nodes}
use Rattle.move_ledger.specs.Edges.{row-length, rows-length}
use Rattle.move_ledger.specs.Chunks.{sum-total, pair_sum}
use Rattle.move_ledger.specs.Totals.{filled_cells, m}
use Rattle.move_ledger.specs.Totals as totals_here

nothing : (t : Bool) → ◌≡◌ {A = ℕ} (cond t 0 0) 0
nothing true = refl
nothing false = refl

-- a row's length and the number of edges, added up over the sets
edges-sum : (load : Load) (place : List ℕ) → length (edges load place) ≡ sum (λ X. sum (λ Y. ind (edge load place X Y)) (rising place)) (rising place)
unfolding edges
edges-sum load place =
    rows-length load place (rising place) (rising place)
    ∙ total-same _ _ (length (rising place)) (λ i b.
    row-length load place (at (rising place) i) (rising place) ∙ count-total _ (length (rising place)) ∙ sym (sum-total (λ Y. ind (edge load place (at (rising place) i) Y)) (rising place)))
    ∙ sym (sum-total (λ X. sum (λ Y. ind (edge load place X Y)) (rising place)) (rising place))

module _ {load : Load} {nodes sets : List ℕ} (o : InOrder load) (p : Placing load nodes sets) (n : ℕ) (few : length sets ≤ n) where
  abbrev place : List ℕ
  place = placed nodes sets

  busy : (z : ℕ) → z < length sets → has (at sets z) place ≡ true → occupied load nodes z ≡ true
  busy z c h =
      let r = has-place (at sets z) place h in
      ap (ltb 0) (members-nodes p z c) ∙ occupy load place (at sets z) r.0 (omega (arith, r.1, placed-length nodes sets, p.atoms)) r.2

  free : (x : ℕ) → (x < length sets → ⊥) → occupied load nodes x ≡ false
  unfolding members
  free x h = ap (ltb 0) (count-all_no (λ i. eqb (at nodes i) x) load.A (λ i c. ne_eqb (at nodes i) x (λ e. h (subst (λ k. k < length sets) e (p.inside i c)))))

  one : (x y : ℕ) → cond (occupied load nodes x) (cond (occupied load nodes y) (ind (edge load place (at sets x) (at sets y))) 0) 0 ≡ ind (ltb 0 (node_mult load nodes sets x y))
  unfolding edge
  one x y = go (dec_lt x (length sets)) (dec_lt y (length sets))
    where
      go : Dec (x < length sets) → Dec (y < length sets)
          → cond (occupied load nodes x) (cond (occupied load nodes y) (ind (edge load place (at sets x) (at sets y))) 0) 0 ≡ ind (ltb 0 (node_mult load nodes sets x y))
      go (yes a) (yes b) = rw (mult-nodes o p x y a b) (by (ltb 0 (mult load place (at sets x) (at sets y))) refl)
        where
          long : length place ≡ load.A
          long = placed-length nodes sets ∙ p.atoms

          by : (t : Bool) → ltb 0 (mult load place (at sets x) (at sets y)) ≡ t → cond (occupied load nodes x) (cond (occupied load nodes y) (ind t) 0) 0 ≡ ind t
          by true e = rw (busy x a (edge-source load place long (at sets x) (at sets y) e), busy y b (edge-target load place long (at sets x) (at sets y) e)) refl
          by false e = ap (λ k. cond (occupied load nodes x) k 0) (nothing (occupied load nodes y)) ∙ nothing (occupied load nodes x)
      go (yes a) (no b) = rw (free y b, mult-outside o p x y (λ c d. b d)) (nothing (occupied load nodes x))
      go (no a) b = rw (free x a, mult-outside o p x y (λ c d. a c)) refl

  pub edge-count_cells : length (edges load place) ≡ filled_cells (sources load nodes sets) (targets load nodes sets) n (totals_here.m o p n few)
  unfolding filled_cells
  edge-count_cells =
      edges-sum load place
      ∙ pair_sum p (λ X Y. ind (edge load place X Y)) (λ i. ind (ltb 0 (flat (sources load nodes sets) (targets load nodes sets) n (totals_here.m o p n few) i))) n few
      (λ x y hx hy. one x y ∙ ap (λ k. ind (ltb 0 k)) (sym (flat-mult _ _ n (totals_here.m o p n few) x y (ends-nodes o p n few (omega arith)) hy)))
      ∙ sym (count-total (λ i. ltb 0 (flat (sources load nodes sets) (targets load nodes sets) n (totals_here.m o p n few) i)) (n * n))
