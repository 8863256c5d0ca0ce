-- The plain ledger of moves and questions: what each call answers and leaves, as lists and numbers alone. Assumes nothing.
use Rattle.std.specs.Prelude.{ℕ, zero, suc, Bool, not, cond, ◌&&◌, ◌||◌, List, [], ◌∷◌, ◌++◌, leb, ltb, eqb, length, set}
use Rattle.graphs.specs.Lists.{has}
use Rattle.graphs.specs.Walk.{cyclic, only}
use Rattle.entry_set.specs.Sets.{value, legal, words}
use Rattle.move_ledger.specs.Graph.{Load, Edge, at, members, occupied, mult, edge, rising, edges, gained, reach}
use Rattle.move_ledger.specs.Answer.{Report, Answer, refused, accepted, rejected, is_refused, is_accepted}
use Rattle.move_ledger.specs.Answer as answer

-- each atom's set, and the registered sets
pub record Ledger : Type 0 where
  pub place : List ℕ
  pub registered : List ℕ

-- at first these are the entry sets
abbrev pub loaded : List ℕ → Ledger
loaded sets = record { place = sets; registered = sets }

-- what a call answers, and the ledger afterwards
pub record Answered : Type 0 where
  pub answer : Answer
  pub after : Ledger

abbrev pub gives : Answer → Ledger → Answered
gives x l = record { answer = x; after = l }

-- the members that pass
unfoldable pub kept : (ℕ → Bool) → List ℕ → List ℕ
kept p [] = []
kept p (x ∷ l) = cond (p x) (x ∷ kept p l) (kept p l)

-- the place of x in a list, the list's length where it has none: a set's node is its place among the registered sets
unfoldable pub index : ℕ → List ℕ → ℕ
index x [] = 0
index x (y ∷ ys) = cond (eqb x y) 0 (suc (index x ys))

-- T at place r of a list, behind it where r is its end
unfoldable pub put : ℕ → ℕ → List ℕ → List ℕ
put r T seen = cond (ltb r (length seen)) (set seen r T) (seen ++ T ∷ [])

-- the smallest, as a number, of the registered sets without an atom
unfoldable pub smallest_empty : Load → List ℕ → List ℕ → ℕ
smallest_empty load place seen = at (rising (kept (λ X. not (occupied load place X)) seen)) 0

-- the place of a new set: the next one, and once N sets are registered that of the smallest empty one
unfoldable pub free_place : Load → ℕ → List ℕ → List ℕ → ℕ
free_place load N place seen = cond (ltb (length seen) N) (length seen) (index (smallest_empty load place seen) seen)

-- a set is registered where it isn't yet; `place` is the placement before the move
unfoldable pub register : Load → ℕ → List ℕ → ℕ → List ℕ → List ℕ
register load N place T seen = cond (has T seen) seen (put (free_place load N place seen) T seen)

-- step 1 rejects: the graph is cyclic, and the atom's chunk is outside its only cyclic component
abbrev pub step1 : Load → List ℕ → ℕ → Bool
step1 load place a = cyclic (edge load place) place && not (only (edge load place) place (at place a))

-- step 2: the ledger with the target registered
abbrev pub step2 : Load → ℕ → Ledger → ℕ → Ledger
step2 load N l T = record { place = l.place; registered = register load N l.place T l.registered }

-- step 3: and with the atom moved
abbrev pub step3 : Load → ℕ → Ledger → ℕ → ℕ → Ledger
step3 load N l a T = record { place = set l.place a T; registered = register load N l.place T l.registered }

-- atom a is fixed: its mark isn't 0. The marks are lent beside the load: no question about the graph reads them
abbrev pub stays : List ℕ → ℕ → Bool
stays fixed a = not (eqb (at fixed a) 0)

-- how many distinct edges appeared and vanished from the graph of p to that of q, and how many other chunks the moved atom's chunk, T, then reaches
abbrev pub report : Load → List ℕ → List ℕ → ℕ → Report
report load p q T = record { appeared = gained load p q; vanished = gained load q p; reached = reach load q T }

-- what a move of atom a to the lent set s is answered, a matter of the load, the marks and the placement: the first row that fits, 24 right after 10;
-- else it is accepted where step 1 doesn't reject it and the moved graph has no cycle
unfoldable pub decide : Load → List ℕ → List ℕ → ℕ → List ℕ → Answer
decide load fixed place a s =
    let moved = set place a (value s) in
    cond (leb load.A a) (refused 10)
    (cond (stays fixed a) (refused 24)
    (cond (not (legal load.E s)) (refused 11)
    (cond (eqb (value s) (at place a)) (refused 12)
    (cond (step1 load place a || cyclic (edge load moved) moved) rejected
    (accepted (report load place moved (value s)))))))

-- the target is registered and the atom moved on trial, unless a row refuses the move or step 1 rejects it
abbrev pub tried : Load → List ℕ → List ℕ → ℕ → List ℕ → Bool
tried load fixed place a s = not (is_refused (decide load fixed place a s) || step1 load place a)

-- a move, and what it leaves: where it is tried its set is registered, and where it is accepted the atom is there; else the atom goes back
unfoldable pub move : Load → List ℕ → ℕ → Ledger → ℕ → List ℕ → Answered
move load fixed N l a s =
    let x = decide load fixed l.place a s in
    gives x (cond (tried load fixed l.place a s) (cond (is_accepted x) (step3 load N l a (value s)) (step2 load N l (value s))) l)

-- the public questions: an atom's set, a set's atom count, one edge's multiplicity, the number of distinct edges, that of chunks, the k-th edge from 0,
-- and whether there is a cycle
pub data Question : Type 0 where
  atom_set : ℕ → Question
  atom_count : List ℕ → Question
  multiplicity : List ℕ → List ℕ → Question
  edge_count : Question
  -- the number of occupied sets
  chunk_count : Question
  edge_at : ℕ → Question
  has_cycle : Question

-- the k-th edge; past the last one the answer is none
unfoldable pub kth : List Edge → ℕ → Answer
kth [] k = answer.none
kth (e ∷ es) zero = answer.edge e
kth (e ∷ es) (suc k) = kth es k

-- a question, unless a row refuses it, is answered from the load and the atoms' sets
unfoldable pub ask : Load → List ℕ → Question → Answer
ask load place (atom_set a) = cond (leb load.A a) (refused 10) (answer.set (words 4 (at place a)))
ask load place (atom_count s) = cond (legal load.E s) (answer.number (members load place (value s))) (refused 11)
ask load place (multiplicity s t) = cond (legal load.E s && legal load.E t) (answer.number (mult load place (value s) (value t))) (refused 11)
ask load place edge_count = answer.number (length (edges load place))
ask load place chunk_count = answer.number (length (rising place))
ask load place (edge_at k) = kth (edges load place) k
ask load place has_cycle = cond (cyclic (edge load place) place) answer.cyclic answer.acyclic

-- what a move list holds: moves and public questions, refused ones too
pub data Call : Type 0 where
  try_move : ℕ → List ℕ → Call
  asks : Question → Call

-- a question changes nothing
unfoldable pub call : Load → List ℕ → ℕ → Ledger → Call → Answered
call load fixed N l (try_move a s) = move load fixed N l a s
call load fixed N l (asks q) = gives (ask load l.place q) l

-- of a list of calls: every answer, and the ledger at the end
unfoldable pub answers : Load → List ℕ → ℕ → Ledger → List Call → List Answer
answers load fixed N l [] = []
answers load fixed N l (c ∷ cs) = (call load fixed N l c).answer ∷ answers load fixed N (call load fixed N l c).after cs

unfoldable pub ledger : Load → List ℕ → ℕ → Ledger → List Call → Ledger
ledger load fixed N l [] = l
ledger load fixed N l (c ∷ cs) = ledger load fixed N (call load fixed N l c).after cs
