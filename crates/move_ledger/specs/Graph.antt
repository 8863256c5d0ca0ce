-- The chunk graph of a load under a placement. A set of entries is a number: bit e counts 2 ^ e.
-- A placement is the list of each atom's set. Assumes nothing.
use Rattle.std.specs.Prelude.{ℕ, suc, ◌+◌, ◌^◌, Bool, not, cond, ◌&&◌, List, [], ◌∷◌, ◌++◌, leb, ltb, eqb, get_or}
use Rattle.graphs.specs.Count.{ind, count}
use Rattle.graphs.specs.Walk.{via}

-- The dependencies of A atoms, each a group of modules, and a host atom or None for each of E entry bits. Those of atom i are the numbers from its start
-- on up to the next one, of D in all.
pub record Load : Type 0 where
  pub A : ℕ
  pub D : ℕ
  pub E : ℕ
  pub starts : List ℕ
  pub dependencies : List ℕ
  pub hosts : List ℕ

-- the load that a call is lent, by its numbers and lists
abbrev pub lent : ℕ → ℕ → ℕ → List ℕ → List ℕ → List ℕ → Load
lent a d e starts dependencies hosts = record { A = a; D = d; E = e; starts = starts; dependencies = dependencies; hosts = hosts }

-- None as a number
abbrev pub none : ℕ
none = 4294967295

-- what stands at place i of a list; of a placement, the set of atom i
abbrev pub at : List ℕ → ℕ → ℕ
at l i = get_or l i 0

-- the atom that dependency entry k belongs to, as many as there are atoms whose entries end by k
unfoldable pub owner : Load → ℕ → ℕ
owner load k = count (λ i. leb (at load.starts (suc i)) k) load.A

-- i is an atom in X
unfoldable pub lies : Load → List ℕ → ℕ → ℕ → Bool
lies load place i X = ltb i load.A && eqb (at place i) X

-- how many atoms X has
unfoldable pub members : Load → List ℕ → ℕ → ℕ
members load place X = count (λ i. eqb (at place i) X) load.A

-- X has an atom. The chunks, which are the nodes of the graph, are the occupied sets
abbrev pub occupied : Load → List ℕ → ℕ → Bool
occupied load place X = ltb 0 (members load place X)

-- dependency entry k goes from an atom in X to one in Y
unfoldable pub entry : Load → List ℕ → ℕ → ℕ → ℕ → Bool
entry load place X Y k = lies load place (owner load k) X && lies load place (at load.dependencies k) Y

-- entry bit e gives a facade edge from X to Y: X is the set of e alone and has an atom, and Y is the set of the host, which isn't None. That X and Y
-- differ is asked in `mult`
unfoldable pub facade : Load → List ℕ → ℕ → ℕ → ℕ → Bool
facade load place X Y e =
    eqb X (2 ^ e) && (occupied load place X && (not (eqb (at load.hosts e) none) && lies load place (at load.hosts e) Y))

-- how often there is an edge from X to Y: once for each dependency entry and each facade edge; from a set to itself 0 times
unfoldable pub mult : Load → List ℕ → ℕ → ℕ → ℕ
mult load place X Y = cond (eqb X Y) 0 (count (entry load place X Y) load.D + count (facade load place X Y) load.E)

-- there is an edge from X to Y. Then, with `cyclic` and `only` of graphs: `cyclic (edge load place) place` says that the graph has
-- a cycle, and `only (edge load place) place X` that X is in its only cyclic component
unfoldable pub edge : Load → List ℕ → ℕ → ℕ → Bool
edge load place X Y = ltb 0 (mult load place X Y)

-- the sets of a placement, rising as numbers, each once
unfoldable pub insert : ℕ → List ℕ → List ℕ
insert x [] = x ∷ []
insert x (y ∷ ys) = cond (eqb x y) (y ∷ ys) (cond (ltb x y) (x ∷ y ∷ ys) (y ∷ insert x ys))

unfoldable pub rising : List ℕ → List ℕ
rising [] = []
rising (x ∷ xs) = insert x (rising xs)

-- an edge with its multiplicity
pub record Edge : Type 0 where
  pub from : ℕ
  pub to : ℕ
  pub multiplicity : ℕ

-- the edges from X to the sets of a list, and from each set of a list
unfoldable pub row : Load → List ℕ → ℕ → List ℕ → List Edge
row load place X [] = []
row load place X (Y ∷ Ys) =
    cond (edge load place X Y) (record { from = X; to = Y; multiplicity = mult load place X Y } ∷ row load place X Ys) (row load place X Ys)

unfoldable pub rows : Load → List ℕ → List ℕ → List ℕ → List Edge
rows load place [] Ys = []
rows load place (X ∷ Xs) Ys = row load place X Ys ++ rows load place Xs Ys

-- the distinct edges, by rising source set, then target set
unfoldable pub edges : Load → List ℕ → List Edge
edges load place = rows load place (rising place) (rising place)

-- f of each member, added up
unfoldable pub sum : (ℕ → ℕ) → List ℕ → ℕ
sum f [] = 0
sum f (x ∷ l) = f x + sum f l

-- how many distinct edges the graph of q has that the graph of p hasn't.
-- From p to q these appear, from q to p they vanish
unfoldable pub gained : Load → List ℕ → List ℕ → ℕ
gained load p q = sum (λ X. sum (λ Y. ind (edge load q X Y && not (edge load p X Y))) (rising q)) (rising q)

-- how many other chunks T reaches
unfoldable pub reach : Load → List ℕ → ℕ → ℕ
reach load place T = sum (λ X. ind (via (edge load place) place T X && not (eqb T X))) (rising place)
