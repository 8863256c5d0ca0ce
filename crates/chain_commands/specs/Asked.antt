-- The number that the input of the program `chain` asks for. Assumes nothing.
use Rattle.std.specs.Prelude.{ℕ, zero, suc, Option, Some, None, Bool, true, false, cond, ◌&&◌, ◌||◌, List, [], ◌∷◌, eqb}
use Rattle.moves_replies.specs.Decimal.{decimal}
use Rattle.moves_replies.specs.Words.{line}

-- two texts are one
unfoldable pub same : List ℕ → List ℕ → Bool
same [] [] = true
same [] (y ∷ l) = false
same (x ∷ k) [] = false
same (x ∷ k) (y ∷ l) = eqb x y && same k l

-- the input is n in base ten without leading noughts, with at most a newline behind it
abbrev pub says : List ℕ → ℕ → Bool
says input n = same input (decimal n) || same input (line (decimal n))

-- the number up to k that the input is, if it is one
unfoldable pub asked_upto : List ℕ → ℕ → Option ℕ
asked_upto input zero = None
asked_upto input (suc k) = cond (says input (suc k)) (Some (suc k)) (asked_upto input k)

-- a number from 1 to 512
abbrev pub asked : List ℕ → Option ℕ
asked input = asked_upto input 512
