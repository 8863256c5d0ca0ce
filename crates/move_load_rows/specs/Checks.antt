-- What the checks of a load test, over the lent lists: where it is turned back. Assumes nothing.
use Rattle.std.specs.Prelude.{ℕ, suc, ◌+◌, ◌<◌, ◌≤◌, ◌≡◌, Bool, not, cond, ◌&&◌, ◌||◌, List, leb, ltb, eqb, length}
use Rattle.graphs.specs.Lists.{some_below}
use Rattle.move_ledger.specs.Graph.{Load, none, at}
use Rattle.move_ledger.specs.Loading.{row4, row5, row6}
use Rattle.move_ledger.specs.LoadLaws.{Starts}

-- a start is above the next one
abbrev pub drops : List ℕ → ℕ → Bool
drops starts i = ltb (at starts (suc i)) (at starts i)

unfoldable pub falling : List ℕ → ℕ → Bool
falling starts count = some_below (drops starts) count

-- the starts don't begin at 0, fall, or don't end at the total
unfoldable pub bad_starts : List ℕ → ℕ → ℕ → Bool
bad_starts starts count total = not (eqb (at starts 0) 0) || (falling starts count || not (eqb (at starts count) total))

-- x is no atom of a, or the atom itself
abbrev pub not_other : ℕ → ℕ → ℕ → Bool
not_other a atom x = leb a x || eqb x atom

-- so it is with an entry from `from` up to `end`
unfoldable pub bad_span : List ℕ → ℕ → ℕ → ℕ → ℕ → Bool
bad_span dependencies from end atom a = some_below (λ k. leb from k && not_other a atom (at dependencies k)) end

-- the entries of atom i
abbrev pub span : Load → ℕ → Bool
span load i = bad_span load.dependencies (at load.starts i) (at load.starts (i + 1)) i load.A

-- x is neither None nor an atom of a
abbrev pub no_host : ℕ → ℕ → Bool
no_host a x = not (eqb x none) && leb a x

-- the first of the rows 4 to 6 that fits, 0 where none does
unfoldable pub list_row : Load → ℕ
list_row load = cond (row4 load) 4 (cond (row5 load) 5 (cond (row6 load) 6 0))

-- every atom has its span within the dependencies
pub record CanOwn (load : Load) : Type 0 where
  pub long : length load.starts ≡ load.A + 1
  pub full : length load.dependencies ≡ load.D
  pub rise : Starts load

-- row 1 doesn't fit
pub record Limits (load : Load) (n : ℕ) : Type 0 where
  pub atoms : load.A ≤ 512
  pub entries : load.D ≤ 8192
  pub bits : load.E ≤ 256
  pub room : load.A < n
  pub sets : n ≤ 1024

-- row 2 doesn't
pub record Lengths (load : Load) : Type 0 where
  pub of_starts : length load.starts ≡ load.A + 1
  pub of_dependencies : length load.dependencies ≡ load.D
  pub of_hosts : length load.hosts ≡ load.E
