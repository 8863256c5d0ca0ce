-- A list of numbers of b bits as one number, the first lowest, and back. Assumes nothing.
use Rattle.std.specs.Prelude.{ℕ, zero, suc, ◌+◌, ◌*◌, ◌^◌, ◌/◌, ◌%◌, List, [], ◌∷◌}

-- the number that numbers of b bits make, bit 0 lowest
unfoldable pub joined : ℕ → List ℕ → ℕ
joined b [] = 0
joined b (x ∷ xs) = x + 2 ^ b * joined b xs

-- the k lowest numbers of b bits of X
unfoldable pub parts : ℕ → ℕ → ℕ → List ℕ
parts b zero X = []
parts b (suc k) X = X % 2 ^ b ∷ parts b k (X / 2 ^ b)

-- each number of 64 bits as two of 32, the low one first
unfoldable pub halves : List ℕ → List ℕ
halves [] = []
halves (x ∷ xs) = x % 2 ^ 32 ∷ x / 2 ^ 32 ∷ halves xs
