-- A count over a list is one over its indices. Assumes nothing.
use Rattle.std.proofs.Common.{◌≡◌, refl, ◌∙◌, Bool, true, false, cond, ℕ, zero, suc, ◌+◌, List, ◌∷◌, length, get_or, arith, zero-add}
use Rattle.std.specs.List.{count_by}
use Rattle.std.proofs.lemmas.List.Recursion.{is_count_by}
use Rattle.graphs.specs.Count.{ind, count, count_none, count-more, count_le}

count-shift : (q : ℕ → Bool) (n : ℕ) → count q (suc n) ≡ ind (q 0) + count (λ k. q (suc k)) n
unfolding count
count-shift q zero = omega arith
count-shift q (suc n) = omega (arith, count-shift q n)

pub counted : (p : ℕ → Bool) (l : List ℕ) → count (λ k. p (get_or l k 0)) (length l) ≡ count_by p l
unfolding count
counted p = is_count_by (λ l. count (λ k. p (get_or l k 0)) (length l)) p refl (λ x l. count-shift (λ k. p (get_or (x ∷ l) k 0)) (length l) ∙ one (p x) (count (λ k. p (get_or l k 0)) (length l)))
  where
    one : (t : Bool) (n : ℕ) → ind t + n ≡ cond t (1 + n) n
    one true n = refl
    one false n = zero-add n

-- one more that is counted or not
pub counted_one : (p : ℕ → Bool) (k all one : ℕ) → all ≡ count p k → one ≡ cond (p k) 1 0 → all + one ≡ count p (k + 1)
counted_one p k all one a e = rw count-more (omega (arith, a, e, same (p k)))
  where
    same : (t : Bool) → cond t 1 0 ≡ ind t
    same true = refl
    same false = refl

pub ruleset counting = (count_none, count_le, counted_one)
