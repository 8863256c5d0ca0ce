-- Numbers written into a part of a list, place by place. Assumes nothing.
use Rattle.std.specs.Prelude.{◌≡◌, List, ℕ, ◌+◌, ◌≤◌, ◌<◌, length, get_or}

-- l' is l with f 0, .. f (k - 1) written from `at` on
pub record Written (f : ℕ → ℕ) (at k : ℕ) (l l' : List ℕ) : Type 0 where
  pub is : (i j : ℕ) → i < k → j ≡ at + i → get_or l' j 0 ≡ f i
  pub far : (j : ℕ) → j < length l → (at ≤ j → at + k ≤ j) → get_or l' j 0 ≡ get_or l j 0
  pub long : length l' ≡ length l
