-- Rows 1 to 8 of the table of refusals, and the answer to loading. Assumes nothing.
use Rattle.std.specs.Prelude.{ℕ, suc, ◌+◌, ◌*◌, ◌^◌, Bool, not, cond, ◌&&◌, ◌||◌, List, leb, ltb, eqb, length, take, drop}
use Rattle.graphs.specs.Lists.{some_below}
use Rattle.graphs.specs.Tab.{tab}
use Rattle.graphs.specs.Walk.{cyclic}
use Rattle.entry_set.specs.Sets.{value, width}
use Rattle.move_ledger.specs.Graph.{Load, none, at, owner, edge}
use Rattle.move_ledger.specs.Answer.{Answer, refused, acyclic}
use Rattle.move_ledger.specs.Answer as answer

-- a number is above its limit, or there is no place for one set more than atoms
abbrev pub row1 : Load → ℕ → Bool
row1 load N = ltb 512 load.A || (ltb 8192 load.D || (ltb 256 load.E || (leb N load.A || ltb 1024 N)))

-- a lent list's length isn't the one called for
abbrev pub row2 : Load → Bool
row2 load = not (eqb (length load.starts) (load.A + 1) && (eqb (length load.dependencies) load.D && eqb (length load.hosts) load.E))

-- an area of `size` numbers is too short
abbrev pub row3 : Load → ℕ → ℕ → Bool
row3 load N size = ltb size (N * N + 24 * (load.A + N + load.D + load.E + 1))

-- the starts are not from 0, fall, or don't end at D
unfoldable pub row4 : Load → Bool
row4 load =
    not (eqb (at load.starts 0) 0)
    || (some_below (λ i. ltb (at load.starts (suc i)) (at load.starts i)) load.A || not (eqb (at load.starts load.A) load.D))

-- a dependency is no atom, or the atom itself
unfoldable pub row5 : Load → Bool
row5 load = some_below (λ k. leb load.A (at load.dependencies k) || eqb (at load.dependencies k) (owner load k)) load.D

-- a host is neither None nor an atom
unfoldable pub row6 : Load → Bool
row6 load = some_below (λ e. not (eqb (at load.hosts e) none) && leb load.A (at load.hosts e)) load.E

-- the first of the rows 1 to 6 that fits, 0 where none does; `lists` tells whether the lists lent beside the load have their lengths
unfoldable pub first_row : Load → ℕ → Bool → ℕ → ℕ
first_row load N lists size =
    cond (row1 load N) 1
    (cond (row2 load || not lists) 2
    (cond (row3 load N size) 3
    (cond (row4 load) 4
    (cond (row5 load) 5
    (cond (row6 load) 6
    0)))))

-- there are as many marks as atoms
abbrev pub marks_fit : Load → List ℕ → Bool
marks_fit load fixed = eqb (length fixed) load.A

-- the rows 1 to 6 of a later call, with an area of `size` numbers
abbrev pub refusal : Load → List ℕ → ℕ → ℕ → ℕ
refusal load fixed N size = first_row load N (marks_fit load fixed) size

-- the entry set of atom i, among the lent ones of `width load.E` numbers each, and all of them
abbrev pub lent_set : Load → List ℕ → ℕ → ℕ
lent_set load sets i = value (take (width load.E) (drop (i * width load.E) sets))

unfoldable pub entry_sets : Load → List ℕ → List ℕ
entry_sets load sets = tab (lent_set load sets) load.A

abbrev pub sets_fit : Load → List ℕ → Bool
sets_fit load sets = eqb (length sets) (load.A * width load.E)

-- a set has a bit at or above E
unfoldable pub row7 : Load → List ℕ → Bool
row7 load sets = some_below (λ i. leb (2 ^ load.E) (lent_set load sets i)) load.A

-- two atoms have equal sets
unfoldable pub row8 : Load → List ℕ → Bool
row8 load sets = some_below (λ i. some_below (λ j. eqb (lent_set load sets j) (lent_set load sets i)) i) load.A

-- row q where it is one, else the next
abbrev pub or_else : ℕ → ℕ → ℕ
or_else q next = cond (eqb q 0) next q

-- the first row that fits at loading, 0 where none does
unfoldable pub loading_row : Load → List ℕ → ℕ → List ℕ → ℕ → ℕ
loading_row load fixed N sets size =
    or_else (first_row load N (marks_fit load fixed && sets_fit load sets) size) (cond (row7 load sets) 7 (cond (row8 load sets) 8 0))

-- loading answers the first row that fits, else whether the graph has a cycle
unfoldable pub loading : Load → List ℕ → ℕ → List ℕ → ℕ → Answer
loading load fixed N sets size =
    let q = loading_row load fixed N sets size in
    let place = entry_sets load sets in
    cond (eqb q 0) (cond (cyclic (edge load place) place) answer.cyclic acyclic) (refused q)
