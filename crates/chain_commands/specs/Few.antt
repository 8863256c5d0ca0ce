-- Five bytes of the input tell what is printed. Assumes nothing.
use Rattle.std.specs.Prelude.{ℕ, zero, suc, ◌≤◌, ◌<◌, ◌≡◌, refl, ◌⊎◌, true, None, List, ◌++◌, leb, length}
use Rattle.std.proofs.Common.{arith, ap, ◌∙◌, inl, inr, length-append, leb-true}
use Rattle.graphs.specs.Bools.{or_cases, fails}
use Rattle.graphs.specs.Lists.{all, below, all_take, has-below}
use Rattle.moves_replies.specs.Decimal.{decimal_in, decimal}
use Rattle.moves_replies.specs.Words.{line}
use Rattle.chain_commands.specs.Asked.{same, says, asked_upto}
use Rattle.chain_commands.specs.Printed.{printed}
use Rattle.chain_commands.specs.Parse.{same_one}

-- a number up to 512 has at most three digits
all_short : all (λ n. leb (length (decimal n)) 3) (below 513) ≡ true
unfolding all below decimal_in
all_short = refl

short : (n : ℕ) → n ≤ 512 → length (decimal n) ≤ 3
short n h = leb-true (length (decimal n)) 3 (all_take (λ n. leb (length (decimal n)) 3) (below 513) all_short n (has-below n 513 (omega arith)))

says-short : (input : List ℕ) (n : ℕ) → n ≤ 512 → says input n ≡ true → length input ≤ 4
says-short input n b h = go (or_cases (same input (decimal n)) _ h)
  where
    go : (same input (decimal n) ≡ true) ⊎ (same input (line (decimal n)) ≡ true) → length input ≤ 4
    go (inl e) = omega (arith, ap length (same_one input (decimal n) e), short n b)
    go (inr e) = omega (arith, ap length (same_one input (line (decimal n)) e) ∙ length-append (decimal n) _, short n b)

-- an input of more than four bytes is none
asked_long : (input : List ℕ) → 4 < length input → (k : ℕ) → k ≤ 512 → asked_upto input k ≡ None
unfolding asked_upto
asked_long input l zero h = refl
asked_long input l (suc k) h = rw (fails (says input (suc k)) (λ e. omega (arith, says-short input (suc k) h e))) (asked_long input l k (omega arith))

-- so what follows five bytes makes no difference
pub printed-more : (bytes more : List ℕ) → 5 ≤ length bytes → printed (bytes ++ more) ≡ printed bytes
unfolding printed
printed-more bytes more h =
    rw (asked_long (bytes ++ more) (simp length-append (omega arith)) 512 (omega arith), asked_long bytes (omega arith) 512 (omega arith)) refl
