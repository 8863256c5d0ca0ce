-- Theorems on the definitions of specs/Gained: they stand here, so that the crate can be read with a definition changed. Assumes nothing.
use Rattle.std.specs.Prelude.{ℕ, zero, suc, ◌+◌, ◌*◌, ◌≤◌, ◌<◌, ◌≡◌, refl, Bool, true, cond, ◌&&◌, List}
use Rattle.std.proofs.Common.{arith, subst, ◌∙◌}
use Rattle.std.proofs.Math.Decide.{dec_lt}
use Rattle.std.proofs.Math.Path.{sym, ap, ap₂}
use Rattle.std.proofs.Math.Bool.{false, not, and-false, and-true}
use Rattle.std.proofs.Math.Dec.{ltb, eqb}
use Rattle.std.proofs.Math.ListN.{length}
use borrow.Author.Tests.{ne_eqb, lt-ltb}
use Rattle.graphs.specs.Count.{ind, count, count-all_no}
use Rattle.graphs.specs.Total.{count-total}
use Rattle.graphs.specs.Lists.{has, has-place}
use Rattle.graphs.specs.Slots.{flat}
use Rattle.graphs.specs.SlotLaws.{flat-mult}
use Rattle.move_ledger.specs.Graph.{Load, at, members, occupied, mult, edge, gained}
use Rattle.move_ledger.specs.GraphLaws.{occupy}
use Rattle.move_ledger.proofs.GraphLaws.{edge-source, edge-target}
use Rattle.move_ledger.specs.LoadLaws.{InOrder}
use Rattle.move_ledger.specs.Nodes.{placed, Placing, sources, targets, node_mult}
use Rattle.move_ledger.specs.NodeLaws.{placed-length, members-nodes}
use Rattle.move_ledger.specs.NodeWalks.{mult-outside, ends-nodes}
use Rattle.move_ledger.proofs.NodeWalks.{mult-nodes}
use Rattle.move_ledger.specs.Chunks.{pair_sum}

none : (t : Bool) → ◌≡◌ {A = ℕ} (cond t 0 0) 0
none true = refl
none false = refl

module _ {load : Load} {nodes nodes' sets : List ℕ} (o : InOrder load) (p : Placing load nodes sets) (q : Placing load nodes' sets) (n : ℕ) (few : length sets ≤ n) (some : 0 < n) where
  abbrev P : List ℕ
  P = placed nodes sets

  abbrev Q : List ℕ
  Q = placed nodes' sets

  abbrev m : ℕ
  m = load.D + load.E

  -- the number of one place of the square
  abbrev cell : ℕ → ℕ
  cell i = ind (eqb (flat (sources load nodes sets) (targets load nodes sets) n m i) 0 && ltb 0 (flat (sources load nodes' sets) (targets load nodes' sets) n m i))

  long : length Q ≡ load.A
  long = placed-length nodes' sets ∙ q.atoms

  busy : (X : ℕ) → has X Q ≡ true → occupied load Q X ≡ true
  busy X h = let r = has-place X Q h in occupy load Q X r.0 (omega (arith, r.1, long)) r.2

  above : (k : ℕ) → not (ltb 0 k) ≡ eqb k 0
  above zero = refl
  above (suc k) = rw (lt-ltb 0 (suc k) (omega arith), ne_eqb (suc k) 0 (λ e. omega arith)) refl

  one : (x y : ℕ) → x < n → y < n
      → cond (occupied load nodes' x) (cond (occupied load nodes' y) (ind (edge load Q (at sets x) (at sets y) && not (edge load P (at sets x) (at sets y)))) 0) 0 ≡ cell (x * n + y)
  unfolding edge members
  one x y hx hy =
      go (dec_lt x (length sets)) (dec_lt y (length sets))
      ∙ ap₂ (λ j k. ind (eqb j 0 && ltb 0 k)) (sym (flat-mult _ _ n m x y (ends-nodes o p n few some) hy)) (sym (flat-mult _ _ n m x y (ends-nodes o q n few some) hy))
    where
      out : (x : ℕ) → (x < length sets → ⊥) → occupied load nodes' x ≡ false
      out x h = ap (ltb 0) (count-all_no (λ i. eqb (at nodes' i) x) load.A (λ i c. ne_eqb (at nodes' i) x (λ e. h (subst (λ k. k < length sets) e (q.inside i c)))))

      go : Dec (x < length sets) → Dec (y < length sets)
          → cond (occupied load nodes' x) (cond (occupied load nodes' y) (ind (edge load Q (at sets x) (at sets y) && not (edge load P (at sets x) (at sets y)))) 0) 0
          ≡ ind (eqb (node_mult load nodes sets x y) 0 && ltb 0 (node_mult load nodes' sets x y))
      go (yes a) (yes b) = rw (mult-nodes o p x y a b, mult-nodes o q x y a b) (by (ltb 0 (mult load Q (at sets x) (at sets y))) refl)
        where
          X : ℕ
          X = at sets x

          Y : ℕ
          Y = at sets y

          there : (z : ℕ) → z < length sets → has (at sets z) Q ≡ true → occupied load nodes' z ≡ true
          there z c h = ap (ltb 0) (members-nodes q z c) ∙ busy (at sets z) h

          by : (t : Bool) → ltb 0 (mult load Q X Y) ≡ t
              → cond (occupied load nodes' x) (cond (occupied load nodes' y) (ind (t && not (ltb 0 (mult load P X Y)))) 0) 0 ≡ ind (eqb (mult load P X Y) 0 && t)
          by true e = rw (there x a (edge-source load Q long X Y e), there y b (edge-target load Q long X Y e), above (mult load P X Y)) (ap ind (sym (and-true (eqb (mult load P X Y) 0))))
          by false e = ap (λ k. cond (occupied load nodes' x) k 0) (none (occupied load nodes' y)) ∙ none (occupied load nodes' x) ∙ sym (ap ind (and-false (eqb (mult load P X Y) 0)))
      go (yes a) (no b) = rw (out y b, mult-outside o q x y (λ c d. b d)) (none (occupied load nodes' x) ∙ sym (ap ind (and-false (eqb (node_mult load nodes sets x y) 0))))
      go (no a) b = rw (out x a, mult-outside o q x y (λ c d. a c)) (sym (ap ind (and-false (eqb (node_mult load nodes sets x y) 0))))

  pub gained_cells : gained load P Q ≡ count (λ i. eqb (flat (sources load nodes sets) (targets load nodes sets) n m i) 0 && ltb 0 (flat (sources load nodes' sets) (targets load nodes' sets) n m i)) (n * n)
  unfolding gained
  gained_cells =
      pair_sum q (λ X Y. ind (edge load Q X Y && not (edge load P X Y))) cell n few one
      ∙ sym (count-total (λ i. eqb (flat (sources load nodes sets) (targets load nodes sets) n m i) 0 && ltb 0 (flat (sources load nodes' sets) (targets load nodes' sets) n m i)) (n * n))
