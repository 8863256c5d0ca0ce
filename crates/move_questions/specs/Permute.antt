-- A sum over numbers in another order is the same sum. Assumes nothing.
use Prim.Native.Nat.{ℕ, zero, suc, ◌+◌, ◌≤◌, ◌<◌}
use native.Mathlib.Omega.{arith}
use Rattle.std.proofs.Math.Decide.{dec_lt}
use Rattle.std.specs.Prelude.{◌≡◌, cond, ltb}
use Rattle.std.proofs.Math.Path.{refl, sym, ap}
use Rattle.std.proofs.Common.{◌∙◌}
use borrow.Author.Tests.{lt-ltb, le-ltb}
use Rattle.graphs.specs.Total.{total, total-same, total_change}

-- o lists the numbers below r, each at its place
pub record Order (o place : ℕ → ℕ) (r : ℕ) : Type 0 where
  pub number : (q : ℕ) → q < r → o q < r
  pub inside : (x : ℕ) → x < r → place x < r
  pub back : (q : ℕ) → q < r → place (o q) ≡ q
  pub there : (x : ℕ) → x < r → o (place x) ≡ x

module _ (f o place : ℕ → ℕ) (r : ℕ) (h : Order o place r) where
  -- f of the numbers that stand before place k
  abbrev early : ℕ → ℕ → ℕ
  early k x = cond (ltb (place x) k) (f x) 0

  none : (m : ℕ) → total (early 0) m ≡ 0
  unfolding total
  none zero = refl
  none (suc m) = rw (none m, le-ltb (place m) 0 (omega arith)) refl

  -- the numbers at the first k places
  part : (k : ℕ) → k ≤ r → total (λ q. f (o q)) k ≡ total (early k) r
  unfolding total
  part zero b = sym (none r)
  part (suc k) b =
      let c : k < r = omega arith in
      let e : total (early (suc k)) r + early k (o k) ≡ total (early k) r + early (suc k) (o k) = total_change (early k) (early (suc k)) r (o k) (h.number k c) (λ x l d. other x l d) in
      let p : early k (o k) ≡ 0 = rw (h.back k c, le-ltb k k (omega arith)) refl in
      let q : early (suc k) (o k) ≡ f (o k) = rw (h.back k c, lt-ltb k (suc k) (omega arith)) refl in
      omega (arith, part k (omega arith))
    where
      other : (x : ℕ) → x < r → (x ≡ o k → ⊥) → early (suc k) x ≡ early k x
      other x l d = go (dec_lt (place x) k)
        where
          go : Dec (place x < k) → early (suc k) x ≡ early k x
          go (yes z) = rw (lt-ltb (place x) k z, lt-ltb (place x) (suc k) (omega arith)) refl
          go (no z) =
              let w : place x ≡ k → ⊥ = λ e. d (sym (h.there x l) ∙ ap o e) in
              rw (le-ltb (place x) k (omega arith), le-ltb (place x) (suc k) (omega arith)) refl

  pub total_order : total (λ q. f (o q)) r ≡ total f r
  total_order = part r (omega arith) ∙ total-same f (early r) r (λ x l. rw (lt-ltb (place x) r (h.inside x l)) refl)
