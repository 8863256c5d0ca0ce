-- The kept matrix: a square of n rows of n numbers that holds the multiplicities of slots, first in a list. Assumes nothing.
use Rattle.std.specs.Prelude.{◌≡◌, List, ℕ, ◌+◌, ◌*◌, ◌/◌, ◌%◌, ◌<◌, length, get_or}
use Rattle.std.proofs.Common.{sym, ◌∙◌, subst, arith, div-add-mod', mod-lt, mul-le-mul_right}
use Rattle.std.proofs.Math.Decide.{dec_lt}
use Rattle.graphs.specs.Tab.{tab, tab-length, tab-at}
use Rattle.graphs.specs.Slots.{flat, Ends, Counts}
use Rattle.graphs.specs.SlotLaws.{flat-mult}
use Rattle.graphs.specs.Square.{index_lt, square_some}

-- the matrix of the first m slots
unfoldable pub matrix : List ℕ → List ℕ → ℕ → ℕ → List ℕ
matrix s t n m = tab (flat s t n m) (n * n)

-- e starts with that matrix, number by number
pub record Holds (e : List ℕ) (n : ℕ) (s t : List ℕ) (m : ℕ) : Type 0 where
  pub at : (i : ℕ) → i < n * n → get_or e i 0 ≡ flat s t n m i

pub matrix_long : (s t : List ℕ) (n m : ℕ) → length (matrix s t n m) ≡ n * n
unfolding matrix
matrix_long s t n m = tab-length _ (n * n)

pub matrix-at : (s t : List ℕ) (n m i : ℕ) → i < n * n → get_or (matrix s t n m) i 0 ≡ flat s t n m i
unfolding matrix
matrix-at s t n m i h = tab-at _ (n * n) i h

-- what holds at each row and column holds at each place of the square
pub each_place : (P : ℕ → Type 0) (n : ℕ) → ((x y : ℕ) → x < n → y < n → P (x * n + y)) → (i : ℕ) → i < n * n → P i
each_place P n f i h = subst P (div-add-mod' i n) (f (i / n) (i % n) row column)
  where
    column : i % n < n
    column = mod-lt i (square_some n i h)

    row : i / n < n
    row = go (dec_lt (i / n) n)
      where
        go : Dec (i / n < n) → i / n < n
        go (yes z) = z
        go (no z) = absurd (omega (arith, mul-le-mul_right {m = n} {n = i / n} n (omega arith), div-add-mod' i n))

module _ {e : List ℕ} {n : ℕ} {s t : List ℕ} {m : ℕ} where
  -- by row and column
  pub holds-counts : Ends s t n m → Holds e n s t m → Counts e n s t m
  holds-counts ends h = record { at = λ x y hx hy. h.at (x * n + y) (index_lt n x y hx hy) ∙ flat-mult s t n m x y ends hy }

  pub counts-holds : Ends s t n m → Counts e n s t m → Holds e n s t m
  counts-holds ends h = record { at = each_place (λ i. get_or e i 0 ≡ flat s t n m i) n (λ x y hx hy. h.at x y hx hy ∙ sym (flat-mult s t n m x y ends hy)) }
