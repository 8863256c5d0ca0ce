-- What a run of the program `chain` leaves. Assumes nothing.
use Rattle.std.specs.Prelude.{ℕ, ◌≤◌, ◌<◌, ◌≡◌, List, [], ◌++◌, length, take}
use Rattle.std.proofs.Common.{arith, sym, ap, ◌∙◌, append-nil, length-take-le}
use Rattle.std.proofs.Math.Decide.{dec_lt}
use Rattle.moves_replies.specs.Room.{Put, put_as}
use Rattle.chain_commands.specs.Printed.{printed}
use Rattle.chain_commands.specs.Few.{printed-more}

-- at the start of what is lent for the answer stands what is printed to the whole input: the bytes that were read, and more only where no place is left
-- in the list that they were read into. Which bytes they are is for the system's `read` to say
pub record Ran (input out out' : List ℕ) (written : ℕ) : Type 0 where
  pub read : ℕ
  pub inside : read ≤ length input
  pub answer : (more : List ℕ) → (read < length input → more ≡ []) → Put (printed (take read input ++ more)) out 0 out' written

-- five places are enough
pub ran : {input out out' : List ℕ} {read written : ℕ} → 5 ≤ length input → read ≤ length input → Put (printed (take read input)) out 0 out' written → Ran input out out' written
ran {input} {out} {out'} {read} {written} five h a =
    record { read = read; inside = h; answer = λ more none. put_as (sym (all more none (dec_lt read (length input)))) a }
  where
    all : (more : List ℕ) → (read < length input → more ≡ []) → Dec (read < length input) → printed (take read input ++ more) ≡ printed (take read input)
    all more none (yes l) = ap (λ (u : List ℕ). printed (take read input ++ u)) (none l) ∙ ap printed (append-nil (take read input))
    all more none (no l) = printed-more (take read input) more (omega (arith, length-take-le read input h))
