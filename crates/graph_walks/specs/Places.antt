-- Counted edges as a walk reads them: of node x it looks at n × n places, row i and column j at i × n + j. Assumes nothing.
use Rattle.std.specs.Prelude.{ℕ, ◌+◌, ◌*◌, ◌/◌, ◌%◌, ◌<◌, ◌≤◌, ◌≡◌, Bool, true, ◌&&◌}
use Rattle.std.proofs.Common.{arith, mod-eq_of_lt, add-mul, mul-le-mul_right, sym, ◌∙◌}
use Rattle.std.proofs.Math.Nat.{mul-add-mod_self_right, div-eq_of_lt-le}
use Rattle.std.proofs.Math.Path.{ap, subst}
use Rattle.std.proofs.Math.Bool.{not}
use Rattle.std.proofs.Math.Dec.{eqb}
use Rattle.graphs.specs.Bools.{and_left, and_right, and_both}
use Rattle.graph_walks.specs.Spread.{Offers}
use Rattle.graph_walks.specs.Counted.{without}

abbrev pub square : ℕ → ℕ → ℕ
square n x = n * n

abbrev pub reached : (ℕ → ℕ) → ℕ → ℕ → ℕ → ℕ
reached end n x k = end (k % n)

-- row k / n is one of x's, its flag at k % n is set, and that isn't x's own
unfoldable pub holds : (ℕ → ℕ → Bool) → (ℕ → ℕ) → ℕ → ℕ → ℕ → Bool
holds d end n x k = (eqb (end (k / n)) x && d (k / n) (k % n)) && not (eqb (end (k % n)) x)

-- places but those of one edge, of s on t
unfoldable pub passes : (ℕ → ℕ → Bool) → (ℕ → ℕ → ℕ) → ℕ → ℕ → ℕ → ℕ → Bool
passes h f s t x k = h x k && not (eqb x s && eqb (f x k) t)

module _ (d : ℕ → ℕ → Bool) (end : ℕ → ℕ) (n : ℕ) where
  module _ (within : (x : ℕ) → x < n → end x < n) where
    pub next_row : (i : ℕ) → (i + 1) * n ≡ i * n + n
    next_row i = add-mul i 1 n ∙ ap (λ v. i * n + v) (once n)
      where
        once : (n : ℕ) → 1 * n ≡ n
        once n = omega arith

    pub at_row : (i j : ℕ) → j < n → (i * n + j) / n ≡ i
    at_row i j b = div-eq_of_lt-le n (omega arith) (omega (arith, next_row i))

    pub at_column : (i j : ℕ) → j < n → (i * n + j) % n ≡ j
    at_column i j b = mul-add-mod_self_right i n j ∙ mod-eq_of_lt b

    pub inside : (i j : ℕ) → i < n → j < n → i * n + j < n * n
    inside i j a b = omega (arith, next_row i, mul-le-mul_right n (before a))
      where
        before : i < n → i + 1 ≤ n
        before a = omega arith

-- the same with one edge left out
module _ {e : ℕ → ℕ → Bool} {n : ℕ} {c : ℕ → ℕ} {f : ℕ → ℕ → ℕ} {h : ℕ → ℕ → Bool} (o : Offers e n c f h) (s t : ℕ) where
  pub offers_without : Offers (without e s t) n c f (passes h f s t)
  unfolding passes without
  offers_without = record {
    ends = λ x k a b q. o.ends x k a b (and_left (h x k) _ q);
    step = λ x k a b q. and_both _ _ (o.step x k a b (and_left (h x k) _ q)) (and_right (h x k) _ q);
    from = λ x y q. o.from x y (and_left (e x y) _ q);
    find = λ x y q.
        let r = o.find x y (and_left (e x y) _ q) in
        (r.0, r.1, and_both _ _ r.2 (subst (λ v. not (eqb x s && eqb v t) ≡ true) (sym r.3) (and_right (e x y) _ q)), r.3);
  }
