-- What each call of a move graph answers, and the area that it leaves. A refused call leaves the area as it was. Assumes nothing.
use Rattle.std.specs.Prelude.{Bool, cond, ◌&&◌, List, ℕ, ◌+◌, eqb, ltb, length, set, replicate}
use Rattle.graphs.specs.Lists.{has}
use Rattle.graphs.specs.Tab.{tab}
use Rattle.graphs.specs.Walk.{via, cyclic}
use Rattle.entry_set.specs.Sets.{value}
use Rattle.move_ledger.specs.Graph.{Load, at, edge}
use Rattle.move_ledger.specs.Answer.{Answer, refused, is_refused}
use Rattle.move_ledger.specs.Ledger.{Ledger, loaded, free_place, step3, tried, move, Question, ask}
use Rattle.move_ledger.specs.Loading.{refusal, entry_sets, loading}
use Rattle.move_area.specs.Area.{State, encode, decode}
use Rattle.move_area.specs.Fixed.{flag, checks_out}

-- an answer, and the area afterwards
pub record Called : Type 0 where
  pub answer : Answer
  pub area : List ℕ

-- a call's answer and its area; the area it was lent where it is refused
abbrev pub unless_refused : List ℕ → Answer → List ℕ → Called
unless_refused before answer after = record { answer = answer; area = cond (is_refused answer) before after }

-- after loading: each atom in a node of its own, no walk yet
abbrev pub first : Load → ℕ → List ℕ → State
first load N sets = record { ledger = loaded (entry_sets load sets); counter = 0; marks = replicate N 0 }

-- `new`
unfoldable pub new : Load → List ℕ → ℕ → List ℕ → List ℕ → Called
new load fixed N sets area = unless_refused area (loading load fixed N sets (length area)) (flag load fixed N (encode load N (first load N sets) area))

-- a later call's rows 1 to 6 and 9 come before its own
unfoldable pub checked : Load → List ℕ → ℕ → List ℕ → Answer → Answer
checked load fixed N area answer =
    let q = refusal load fixed N (length area) in
    cond (eqb q 0) (cond (checks_out load fixed N area) answer (refused 9)) (refused q)

-- a question is answered from the atoms' sets
unfoldable pub asked : Load → List ℕ → ℕ → List ℕ → Question → Answer
asked load fixed N area q = checked load fixed N area (ask load (decode load N area).ledger.place q)

-- the last value of the walk counter, after which it restarts at 1
abbrev pub last : ℕ → Bool
last counter = eqb counter 4294967295

unfoldable pub next : ℕ → ℕ
next counter = cond (last counter) 1 (counter + 1)

-- a newly registered node has no mark
unfoldable pub marks_for : Load → ℕ → Ledger → ℕ → List ℕ → List ℕ
marks_for load N l T marks = cond (has T l.registered) marks (set marks (free_place load N l.place l.registered) 0)

-- the marks after the walk from the target's node in the moved graph: the nodes that it reaches in one step or more have the new counter
unfoldable pub walked : Load → Ledger → ℕ → ℕ → List ℕ → List ℕ
walked load moved T counter marks =
    tab
    (λ x.
    cond (ltb x (length moved.registered) && via (edge load moved.place) moved.place T (at moved.registered x)) (next counter)
    (cond (last counter) 0 (at marks x)))
    (length marks)

-- the state after a move. The walk is made where the graph had no cycle before
unfoldable pub after : Load → List ℕ → ℕ → State → ℕ → List ℕ → State
after load fixed N st a s =
    let l = st.ledger in
    let T = value s in
    let marks = marks_for load N l T st.marks in
    cond (tried load fixed l.place a s)
    (record {
      ledger = (move load fixed N l a s).after;
      counter = cond (cyclic (edge load l.place) l.place) st.counter (next st.counter);
      marks = cond (cyclic (edge load l.place) l.place) marks (walked load (step3 load N l a T) T st.counter marks);
    })
    st

-- `try_move`
unfoldable pub try_move : Load → List ℕ → ℕ → List ℕ → ℕ → List ℕ → Called
try_move load fixed N area a s =
    let st = decode load N area in
    unless_refused area (checked load fixed N area (move load fixed N st.ledger a s).answer) (encode load N (after load fixed N st a s) area)
