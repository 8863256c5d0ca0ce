-- Laws of lists of pairs, and of the search in one. Assumes nothing.
use Rattle.std.specs.Prelude.{ℕ, zero, suc, ◌+◌, ◌<◌, ◌≡◌, refl, length}
use Rattle.std.proofs.Common.{arith, ap₂, ◌∙◌, eq-eqb, ne_eqb}
use Rattle.std.proofs.Math.Decide.{ℕ_discrete}
use Rattle.std.proofs.Math.Path.{sym, ap}
use mathlib.Core.List.{List, [], ◌∷◌, ◌++◌, append_assoc}
use Rattle.merge_state.specs.State.{None, chunk_of, at, pairs}
use Rattle.merge_state.specs.Ordered.{one_longer, at_old, at_new}

pub pairs-length : (f : ℕ → ℕ × ℕ) (n : ℕ) → length (pairs f n) ≡ n
unfolding pairs
pairs-length f zero = refl
pairs-length f (suc n) = omega (arith, one_longer (pairs f n) (f n), pairs-length f n)

pub pairs-at : (f : ℕ → ℕ × ℕ) (n i : ℕ) → i < n → at (pairs f n) i ≡ f i
unfolding pairs
pairs-at f zero i h = absurd (omega arith)
pairs-at f (suc n) i h = elim (ℕ_discrete i n) [
  | yes q ↦ rw q (ap (λ j. at (pairs f n ++ (f n ∷ [])) j) (sym (pairs-length f n)) ∙ at_new (pairs f n) (f n))
  | no q ↦ at_old (pairs f n) (f n) i (omega (arith, pairs-length f n)) ∙ pairs-at f n i (omega arith)
]

pub pairs-same : (f g : ℕ → ℕ × ℕ) (n : ℕ) → ((i : ℕ) → i < n → f i ≡ g i) → pairs f n ≡ pairs g n
unfolding pairs
pairs-same f g zero h = refl
pairs-same f g (suc n) h = ap₂ (λ l e. l ++ (e ∷ [])) (pairs-same f g n (λ i b. h i (omega arith))) (h n (omega arith))

pub pairs-more : (f : ℕ → ℕ × ℕ) (n : ℕ) → pairs f (n + 1) ≡ pairs f n ++ (f n ∷ [])
unfolding pairs
pairs-more f n = ap (pairs f) (native.Mathlib.Numerals.add-one n)

-- the pairs from the k-th on
pairs_from : (f : ℕ → ℕ × ℕ) (n k : ℕ) → k < n → (r : List (ℕ × ℕ)) × (pairs f n ≡ pairs f k ++ (f k ∷ r))
unfolding pairs
pairs_from f zero k h = absurd (omega arith)
pairs_from f (suc n) k h = elim (ℕ_discrete k n) [
  | yes q ↦ ([], ap (λ j. pairs f j ++ (f j ∷ [])) (sym q))
  | no q ↦
      let r = pairs_from f n k (omega arith) in
      (r.0 ++ (f n ∷ []), ap (λ l. l ++ (f n ∷ [])) r.1 ∙ append_assoc (pairs f k) (f k ∷ r.0) (f n ∷ []))
]

pass_over : (v : ℕ) (l m : List (ℕ × ℕ)) → ((i : ℕ) → i < length l → (at l i).0 ≡ v → ⊥) → chunk_of v (l ++ m) ≡ chunk_of v m
unfolding chunk_of
pass_over v [] m h = refl
pass_over v (e ∷ l) m h = rw (ne_eqb e.0 v (h 0 (omega arith))) (pass_over v l m (λ i b. h (suc i) (omega arith)))

found-head : (v : ℕ) (e : ℕ × ℕ) (m : List (ℕ × ℕ)) → e.0 ≡ v → chunk_of v (e ∷ m) ≡ e.1
unfolding chunk_of
found-head v e m h = rw (eq-eqb e.0 v h)

module _ (v : ℕ) (f : ℕ → ℕ × ℕ) (n k : ℕ) (before : (i : ℕ) → i < k → (f i).0 ≡ v → ⊥) where
  earlier : (i : ℕ) → i < length (pairs f k) → (at (pairs f k) i).0 ≡ v → ⊥
  earlier i b q = let c : i < k = omega (arith, pairs-length f k) in before i c (ap (λ e. e.0) (sym (pairs-at f k i c)) ∙ q)

  pub found_at : k < n → (f k).0 ≡ v → (f k).1 ≡ chunk_of v (pairs f n)
  found_at h q =
      let r = pairs_from f n k h in
      sym (ap (chunk_of v) r.1 ∙ pass_over v (pairs f k) (f k ∷ r.0) earlier ∙ found-head v (f k) r.0 q)

  pub found_none : k ≡ n → None ≡ chunk_of v (pairs f n)
  unfolding chunk_of
  found_none q = sym (ap (λ j. chunk_of v (pairs f j)) (sym q) ∙ ap (chunk_of v) (sym (mathlib.Core.List.append-nil (pairs f k))) ∙ pass_over v (pairs f k) [] earlier)
