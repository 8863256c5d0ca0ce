-- What a search of the library says, as a test of some number below a bound. Assumes nothing.
use Rattle.std.proofs.Common.{◌≡◌, ℕ, ◌+◌, Bool, true, false, not, leb, List, length, arith, sym, add-one}
use Rattle.std.specs.List.{IsAnyAnswer, IsAllAdjacentAnswer}
use borrow.Author.Tests.{lt-ltb, le-ltb, leb-true, leb-false}
use Rattle.graphs.specs.Lists.{some_below, some_found, none_below}
use Rattle.move_ledger.specs.Graph.{at}
use Rattle.move_load_rows.specs.Checks.{drops, falling}

-- some number of a list passes
pub any_is : (p : ℕ → Bool) (xs : List ℕ) (r : Bool) → IsAnyAnswer (λ x b. p x ≡ b) xs r → r ≡ some_below (λ k. p (at xs k)) (length xs)
any_is p xs true h = some_found (λ k. p (at xs k)) (length xs) h.0 h.1 (h.2 0)
any_is p xs false h = sym (none_below (λ k. p (at xs k)) (length xs) (λ k b. h k 0 (omega arith) b))

-- two neighbours fall where a list isn't sorted
pub sorted_is : (starts : List ℕ) (count : ℕ) (r : Bool) → length starts ≡ count + 1 → IsAllAdjacentAnswer (λ x y b. leb x y ≡ b) starts r → not r ≡ falling starts count
unfolding falling
sorted_is starts count true e h = sym (none_below (drops starts) count (λ k b. rw (← add-one k) (le-ltb _ _ (leb-true _ _ (h k 0 (omega arith))))))
sorted_is starts count false e h = some_found (drops starts) count h.0 (omega (arith, h.1)) (rw (← add-one h.0) (lt-ltb _ _ (leb-false _ _ (h.2 0))))
