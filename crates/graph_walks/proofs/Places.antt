-- Theorems on the definitions of specs/Places: they stand here, so that the crate can be read with a definition changed. Assumes nothing.
use Rattle.std.specs.Prelude.{ℕ, zero, suc, ◌+◌, ◌*◌, ◌/◌, ◌%◌, ◌<◌, ◌≡◌, Bool, true, ◌&&◌}
use Rattle.std.proofs.Common.{arith, mod-lt, div-lt_iff_lt-mul, sym, ap₂, ◌∙◌}
use Rattle.std.proofs.Math.Path.{ap, subst}
use Rattle.std.proofs.Math.Bool.{not}
use Rattle.std.proofs.Math.Dec.{eqb}
use borrow.Author.Tests.{eqb-true, eqb-false, eq-eqb, ne_eqb, not-true}
use Rattle.graphs.specs.Bools.{and_left, and_right, and_both}
use Rattle.graph_walks.specs.Spread.{Offers}
use Rattle.graph_walks.specs.Counted.{counted, counted_give, counted-take}
use Rattle.graph_walks.specs.Places.{square, reached, holds, at_row, at_column, inside}
use Rattle.graph_walks.specs.Places as places_here

module _ (d : ℕ → ℕ → Bool) (end : ℕ → ℕ) (n : ℕ) where
  module _ (within : (x : ℕ) → x < n → end x < n) where
    column : (k : ℕ) → k < n * n → k % n < n
    column k b = go n b
      where
        go : (n : ℕ) → k < n * n → k % n < n
        go zero b = absurd (omega arith)
        go (suc n) b = mod-lt k (omega arith)

    row : (k : ℕ) → k < n * n → k / n < n
    row k b = go n b
      where
        go : (n : ℕ) → k < n * n → k / n < n
        go zero b = absurd (omega arith)
        go (suc n) b = let p : 0 < suc n = omega arith in (div-lt_iff_lt-mul p).1 b

    pub offers : Offers (counted d end n) n (square n) (reached end n) (holds d end n)
    unfolding holds
    offers = record {
      ends = λ x k a b h. within (k % n) (column k b);
      step = λ x k a b h.
          let p = and_left (eqb (end (k / n)) x && d (k / n) (k % n)) _ h in
          let q : end (k / n) ≡ x = eqb-true _ _ (and_left (eqb (end (k / n)) x) _ p) in
          let ne = eqb-false _ _ (not-true _ (and_right (eqb (end (k / n)) x && d (k / n) (k % n)) _ h)) in
          subst (λ z. counted d end n z (end (k % n)) ≡ true) q (counted_give d end n (k / n) (k % n) (row k b) (column k b) (and_right (eqb (end (k / n)) x) _ p) (λ e. ne (sym e ∙ q)));
      from = λ x y h. let r = counted-take d end n x y h in subst (λ z. z < n) r.from (within r.source r.source_in);
      find = λ x y h.
          let r = counted-take d end n x y h in
          let i = r.source in
          let j = r.target in
          let c : (i * n + j) % n ≡ j = (places_here.at_column d end n within) i j r.target_in in
          let w : (i * n + j) / n ≡ i = (places_here.at_row d end n within) i j r.target_in in (
            i * n + j,
            (places_here.inside d end n within) i j r.source_in r.target_in,
            and_both _ _ (and_both _ _ (eq-eqb _ _ (ap end w ∙ r.from)) (ap₂ d w c ∙ r.edge)) (ap not (ne_eqb _ _ (λ e. r.differ (sym e ∙ ap end c ∙ r.to)))),
            ap end c ∙ r.to,
          );
    }
