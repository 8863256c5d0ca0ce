-- A list's sum is the sum over its places. Assumes nothing.
use Rattle.std.proofs.Common.{◌≡◌, ℕ, zero, suc, ◌+◌, ◌≤◌, ◌<◌, List, length, take, get_or, sym, ap, ◌∙◌, arith, add-one, take_all}
use Rattle.std.specs.Prelude.{sum}
use Rattle.std.proofs.lemmas.Grind.{common_steps}
use Rattle.graphs.specs.Total.{total, total-none, total-more}
use Rattle.move_ledger.specs.Graph.{at}

first-sum : (l : List ℕ) (k : ℕ) → k ≤ length l → total (at l) k ≡ sum (take k l)
first-sum l zero h = total-none (at l)
first-sum l (suc k) h =
    let lt : k < length l = omega arith in
    let step : sum (take (k + 1) l) ≡ sum (take k l) + get_or l k 0 = grind (arith, common_steps) in
    let more : total (at l) (k + 1) ≡ sum (take (k + 1) l) = omega (arith, total-more (at l) k, first-sum l k (omega arith)) in
    rw add-one at more

pub sum-total : (l : List ℕ) → sum l ≡ total (at l) (length l)
sum-total l = ap sum (sym (take_all (length l) l (omega arith))) ∙ sym (first-sum l (length l) (omega arith))
