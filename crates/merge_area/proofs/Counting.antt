-- Counting over a part of a list. Assumes nothing.
use Rattle.std.proofs.Common.{ℕ, zero, suc, ◌+◌, ◌-◌, ◌≤◌, ◌≡◌, refl, ap, subst, sym, ◌∙◌, arith, Bool, true, false, List, length, get_or, take, drop, length-drop, get_or-drop, count_by, add-one}
use Rattle.std.proofs.lemmas.List.Sums.{count_by_more_yes, count_by_more_no}
use Rattle.std.specs.List.{between}
use Rattle.graphs.specs.Count.{count, count_none, count_yes, count_no, count_ext}

module _ (p : ℕ → Bool) where
  one_more : (l : List ℕ) (k : ℕ) → suc k ≤ length l → (b : Bool) → p (get_or l k 0) ≡ b → count_by p (take k l) ≡ count (λ i. p (get_or l i 0)) k → count_by p (take (k + 1) l) ≡ count (λ i. p (get_or l i 0)) (k + 1)
  one_more l k h true e before = count_by_more_yes p l k 0 (omega arith) e ∙ ap (λ n. n + 1) before ∙ sym (count_yes (λ i. p (get_or l i 0)) k e)
  one_more l k h false e before = count_by_more_no p l k 0 (omega arith) e ∙ before ∙ sym (count_no (λ i. p (get_or l i 0)) k e)

  -- the first k numbers
  count_first : (l : List ℕ) (k : ℕ) → k ≤ length l → count_by p (take k l) ≡ count (λ i. p (get_or l i 0)) k
  count_first l zero h = sym (count_none (λ i. p (get_or l i 0)))
  count_first l (suc k) h = subst (λ i. count_by p (take i l) ≡ count (λ j. p (get_or l j 0)) i) (add-one k) (one_more l k h (p (get_or l k 0)) refl (count_first l k (omega arith)))

  -- the n numbers from `at` on
  pub count_part : (l : List ℕ) (at n : ℕ) → at + n ≤ length l → count_by p (between at (at + n) l) ≡ count (λ i. p (get_or l (at + i) 0)) n
  count_part l at n h =
      let e : (at + n) - at ≡ n = omega arith in
      ap (λ k. count_by p (take k (drop at l))) e ∙ count_first (drop at l) n (omega (arith, length-drop at l)) ∙ count_ext _ _ n (λ i b. ap p (get_or-drop at l i 0))
