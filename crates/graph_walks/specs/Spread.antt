-- A walk that marks nodes and has a stack of those whose neighbours it has still to look at. Assumes nothing.
use Rattle.std.specs.Prelude.{ℕ, ◌+◌, ◌*◌, ◌^◌, ◌<◌, ◌≤◌, ◌≡◌, ◌⊎◌, Bool, true, false, not, List, get_or, length, set, ltb}
use Rattle.graphs.specs.Count.{ind}
use Rattle.graphs.specs.Total.{whites}
use Rattle.graph_neighbours.specs.Lists.{Graph}

-- whether x is marked: it has this mark, or a greater one
abbrev pub met : ℕ → List ℕ → ℕ → ℕ
met mark marks x = ind (not (ltb (get_or marks x 0) mark))

abbrev pub stk : List ℕ → ℕ → ℕ
stk stack p = get_or stack p 0

-- The edges e between nodes below n, as a walk reads them: of node x it looks at d x places; where the i-th holds (h x i), f x i is a neighbour.
-- Of a neighbour list every place holds; of a row of flags those that are set.
pub record Offers (e : ℕ → ℕ → Bool) (n : ℕ) (d : ℕ → ℕ) (f : ℕ → ℕ → ℕ) (h : ℕ → ℕ → Bool) : Type 0 where
  pub ends : (x i : ℕ) → x < n → i < d x → h x i ≡ true → f x i < n
  pub step : (x i : ℕ) → x < n → i < d x → h x i ≡ true → e x (f x i) ≡ true
  pub from : (x y : ℕ) → e x y ≡ true → x < n
  pub find : (x y : ℕ) → e x y ≡ true → (i : ℕ) × (i < d x) × (h x i ≡ true) × (f x i ≡ y)

-- What a walk keeps, where o are the nodes that were marked before it, and r those that it may mark: c tells which nodes are marked, s is the stack,
-- sp high; of the node t the places before the j-th are looked at. A node that the walk marked is on the stack, or all its neighbours are marked.
pub record Spread (n : ℕ) (d : ℕ → ℕ) (f : ℕ → ℕ → ℕ) (h : ℕ → ℕ → Bool) (o r : ℕ → Bool) (c s : ℕ → ℕ) (sp t j : ℕ) : Type 0 where
  pub node : (p : ℕ) → p < sp → s p < n
  pub met : (p : ℕ) → p < sp → c (s p) ≡ 1
  pub live : (p : ℕ) → p < sp → r (s p) ≡ true
  pub old : (x : ℕ) → x < n → o x ≡ true → c x ≡ 1
  pub from : (x : ℕ) → x < n → c x ≡ 1 → o x ≡ false → r x ≡ true
  pub part : (i : ℕ) → i < j → i < d t → h t i ≡ true → c (f t i) ≡ 1
  pub shut : (x : ℕ) → x < n → c x ≡ 1 → o x ≡ false
      → ((p : ℕ) × (p < sp) × (s p ≡ x)) ⊎ ((i : ℕ) → i < d x → h x i ≡ true → (x ≡ t → i < j) → c (f x i) ≡ 1)

-- the slices are long enough, and the stack has room for every node that is not marked
pub record Ready (n mark : ℕ) (marks stack : List ℕ) (sp : ℕ) : Type 0 where
  pub cells : n ≤ length marks
  pub room : n ≤ length stack
  pub count : whites n (met mark marks) + sp ≤ n
  pub node : (p : ℕ) → p < sp → stk stack p < n

-- a number that each step makes less
unfoldable pub size : ℕ → ℕ → List ℕ → ℕ → ℕ
size n mark marks sp = 2 * whites n (met mark marks) + sp

-- only nodes below n that had no mark got one
pub record Kept (n mark : ℕ) (l l' : List ℕ) : Type 0 where
  pub stay : (x : ℕ) → mark ≤ get_or l x 0 → get_or l' x 0 ≡ get_or l x 0
  pub low : (x : ℕ) → get_or l' x 0 < mark → get_or l' x 0 ≡ get_or l x 0
  pub new : (x : ℕ) → get_or l x 0 < mark → mark ≤ get_or l' x 0 → get_or l' x 0 ≡ mark
  pub beyond : (x : ℕ) → n ≤ x → get_or l' x 0 ≡ get_or l x 0

pub record CanLook (marks stack : List ℕ) (mark sp y : ℕ) : Type 0 where
  pub cell : y < length marks
  pub room : get_or marks y 0 < mark → sp < length stack

-- y is marked and goes on the stack, unless it is marked
pub record Looked (marks stack : List ℕ) (mark sp y : ℕ) (marks' stack' : List ℕ) (sp' : ℕ) : Type 0 where
  pub old : mark ≤ get_or marks y 0 → (marks' ≡ marks) × (stack' ≡ stack) × (sp' ≡ sp)
  pub new : get_or marks y 0 < mark → (marks' ≡ set marks y mark) × (stack' ≡ set stack sp y) × (sp' ≡ sp + 1)

-- y is looked at where b says so
pub record LookedWhere (b : Bool) (marks stack : List ℕ) (mark sp y : ℕ) (marks' stack' : List ℕ) (sp' : ℕ) : Type 0 where
  pub skipped : b ≡ false → (marks' ≡ marks) × (stack' ≡ stack) × (sp' ≡ sp)
  pub looked : b ≡ true → Looked marks stack mark sp y marks' stack' sp'

-- what the walk may mark, it may mark the neighbours of
abbrev pub HandsOn : (ℕ → ℕ → Bool) → (o r : ℕ → Bool) → Type 0
HandsOn e o r = (x y : ℕ) → r x ≡ true → e x y ≡ true → o y ≡ false → r y ≡ true

-- after looking at t's places before the j-th
pub record Scanned (e : ℕ → ℕ → Bool) (n : ℕ) (d : ℕ → ℕ) (f : ℕ → ℕ → ℕ) (h : ℕ → ℕ → Bool) (mark : ℕ) (marks stack : List ℕ) (sp t j : ℕ) (marks' stack' : List ℕ) (sp' : ℕ) : Type 0 where
  pub ready : Ready n mark marks' stack' sp'
  pub kept : Kept n mark marks marks'
  pub less : size n mark marks' sp' ≤ size n mark marks sp
  pub state : (o r : ℕ → Bool) → Spread n d f h o r (met mark marks) (stk stack) sp t 0 → ((y : ℕ) → e t y ≡ true → o y ≡ false → r y ≡ true)
      → Spread n d f h o r (met mark marks') (stk stack') sp' t j

-- after all nodes on the stack are done
pub record Done (e : ℕ → ℕ → Bool) (n : ℕ) (d : ℕ → ℕ) (f : ℕ → ℕ → ℕ) (h : ℕ → ℕ → Bool) (mark : ℕ) (marks stack : List ℕ) (sp : ℕ) (marks' stack' : List ℕ) (sp' : ℕ) : Type 0 where
  pub ready : Ready n mark marks' stack' sp'
  pub kept : Kept n mark marks marks'
  pub state : (o r : ℕ → Bool) → HandsOn e o r → Spread n d f h o r (met mark marks) (stk stack) sp n 0
      → Spread n d f h o r (met mark marks') (stk stack') sp' n 0

-- every place of a neighbour list holds
abbrev pub every : ℕ → ℕ → Bool
every x i = true

pub record CanSpread (starts list : List ℕ) (n mark : ℕ) (marks stack : List ℕ) (sp : ℕ) : Type 0 where
  pub graph : Graph starts list n
  pub ready : Ready n mark marks stack sp

pub record CanReach (starts list : List ℕ) (n mark root : ℕ) (marks stack : List ℕ) : Type 0 where
  pub graph : Graph starts list n
  pub cells : n ≤ length marks
  pub room : n ≤ length stack
  pub start : root < n
  pub fresh : (x : ℕ) → x < n → get_or marks x 0 < mark

-- of row x a walk looks at n places, and the i-th is node i
abbrev pub wide : ℕ → ℕ → ℕ
wide n x = n

abbrev pub itself : ℕ → ℕ → ℕ
itself x i = i

-- n rows of c flags
pub record Rows (l : List ℕ) (c n : ℕ) : Type 0 where
  pub cells : n * c ≤ length l
  pub narrow : n ≤ c
  pub few : n < 2 ^ 32

-- the slices are long enough, and no node is marked yet
pub record Unmarked (n mark : ℕ) (marks stack : List ℕ) : Type 0 where
  pub cells : n ≤ length marks
  pub room : n ≤ length stack
  pub fresh : (x : ℕ) → x < n → get_or marks x 0 < mark
