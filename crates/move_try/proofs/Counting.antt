-- How many numbers of a list, or of a part of it, pass a test is how many places do. Assumes nothing.
use Rattle.std.proofs.Common.{◌≡◌, ℕ, zero, suc, ◌+◌, ◌≤◌, ◌<◌, Bool, true, false, List, length, take, get_or, refl, sym, ap, ◌∙◌, arith, add-one, get_or-take, length-take-le}
use Rattle.std.specs.Prelude.{count_by}
use Rattle.std.proofs.lemmas.List.{take_all}
use Rattle.std.proofs.lemmas.List.Sums.{count_by_more_yes, count_by_more_no}
use Rattle.graphs.specs.Count.{ind, count, count-more, count_none, count_ext}
use Rattle.layout.specs.Patch.{part, part_long, part_at}

module _ (p : ℕ → Bool) (l : List ℕ) where
  more : (k : ℕ) → k < length l → count (λ i. p (get_or l i 0)) k ≡ count_by p (take k l) → count (λ i. p (get_or l i 0)) (k + 1) ≡ count_by p (take (k + 1) l)
  more k h so_far = count-more (λ i. p (get_or l i 0)) k ∙ go (p (get_or l k 0)) refl
    where
      go : (b : Bool) → p (get_or l k 0) ≡ b → count (λ i. p (get_or l i 0)) k + ind b ≡ count_by p (take (k + 1) l)
      go true e = omega (arith, so_far, count_by_more_yes p l k 0 h e)
      go false e = omega (arith, so_far, count_by_more_no p l k 0 h e)

  places : (k : ℕ) → k ≤ length l → count (λ i. p (get_or l i 0)) k ≡ count_by p (take k l)
  places zero h = count_none (λ i. p (get_or l i 0))
  places (suc k) h = rw add-one at (more k (omega arith) (places k (omega arith)))

  pub count-places : count_by p l ≡ count (λ i. p (get_or l i 0)) (length l)
  count-places = ap (count_by p) (sym (take_all (length l) l (omega arith))) ∙ sym (places (length l) (omega arith))

  -- of the first n numbers
  pub count-first : (n : ℕ) → n ≤ length l → count (λ i. p (get_or (take n l) i 0)) (length (take n l)) ≡ count (λ i. p (get_or l i 0)) n
  count-first n h = ap (count _) (length-take-le n l h) ∙ count_ext _ _ n (λ i b. ap p (get_or-take n l i 0 b))

  -- of n numbers from a place on
  pub count-part : (at n : ℕ) → count (λ i. p (get_or (part at n l) i 0)) (length (part at n l)) ≡ count (λ i. p (get_or l (at + i) 0)) n
  count-part at n = ap (count _) (part_long at n l) ∙ count_ext _ _ n (λ i b. ap p (part_at at n l i b))
