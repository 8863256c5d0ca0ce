-- Edge slots. A slot k of two lists is the edge from what stands in the first list to what stands in the second, and no edge where the two are equal.
-- Assumes nothing.
use Rattle.std.specs.Prelude.{◌≡◌, List, Bool, not, cond, ◌&&◌, ℕ, ◌+◌, ◌-◌, ◌*◌, ◌<◌, eqb, ltb, get_or, set}
use Rattle.graphs.specs.Count.{count}

-- whether an edge from a to b is the one from x to y
abbrev pub same : ℕ → ℕ → ℕ → ℕ → Bool
same a b x y = not (eqb a b) && (eqb a x && eqb b y)

-- whether an edge from a to b, counted at i, counts at x
abbrev pub hits : ℕ → ℕ → ℕ → ℕ → Bool
hits a b i x = not (eqb a b) && eqb i x

-- whether an edge from a to b stands at place i of a square of n rows
abbrev pub stands : ℕ → ℕ → ℕ → ℕ → Bool
stands n a b i = hits a b (a * n + b) i

-- whether slot k is the edge from x to y
abbrev pub slot : List ℕ → List ℕ → ℕ → ℕ → ℕ → Bool
slot s t x y k = same (get_or s k 0) (get_or t k 0) x y

-- whether slot k stands at place i of a square of n rows
abbrev pub cell : List ℕ → List ℕ → ℕ → ℕ → ℕ → Bool
cell s t n i k = stands n (get_or s k 0) (get_or t k 0) i

-- the multiplicity of the edge from x to y in the first m slots
unfoldable pub mult : List ℕ → List ℕ → ℕ → ℕ → ℕ → ℕ
mult s t m x y = count (slot s t x y) m

-- the same by the place in a square of n rows
abbrev pub flat : List ℕ → List ℕ → ℕ → ℕ → ℕ → ℕ
flat s t n m i = count (cell s t n i) m

-- there is an edge from x to y in the first m slots
unfoldable pub slot_edge : List ℕ → List ℕ → ℕ → ℕ → ℕ → Bool
slot_edge s t m x y = ltb 0 (mult s t m x y)

-- both ends of each of the first m slots are below n
pub record Ends (s t : List ℕ) (n m : ℕ) : Type 0 where
  pub source : (k : ℕ) → k < m → get_or s k 0 < n
  pub target : (k : ℕ) → k < m → get_or t k 0 < n

-- the square e of n rows holds the multiplicities of the first m slots
pub record Counts (e : List ℕ) (n : ℕ) (s t : List ℕ) (m : ℕ) : Type 0 where
  pub at : (x y : ℕ) → x < n → y < n → get_or e (x * n + y) 0 ≡ mult s t m x y

-- an edge from a to b is counted at i: one more there, or one less; nothing where a is b
unfoldable pub more : List ℕ → ℕ → ℕ → ℕ → List ℕ
more e i a b = cond (eqb a b) e (set e i (get_or e i 0 + 1))

unfoldable pub less : List ℕ → ℕ → ℕ → ℕ → List ℕ
less e i a b = cond (eqb a b) e (set e i (get_or e i 0 - 1))

-- the square of n rows with one edge more, and with one less
abbrev pub added : List ℕ → ℕ → ℕ → ℕ → List ℕ
added e n a b = more e (a * n + b) a b

abbrev pub removed : List ℕ → ℕ → ℕ → ℕ → List ℕ
removed e n a b = less e (a * n + b) a b
