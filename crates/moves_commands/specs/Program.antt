-- What the program `moves` prints. A command's number is hexadecimal in words. Assumes nothing.
use Rattle.std.specs.Prelude.{Bool, true, not, cond, ◌&&◌, Option, Some, None, is_some, List, [], ◌∷◌, ◌++◌, ℕ, zero, suc, ◌+◌, leb, eqb, take, replicate}
use Rattle.graphs.specs.Tab.{tab}
use Rattle.layout.specs.Patch.{patch}
use Rattle.refusals.specs.Rows.{row}
use Rattle.refusals.specs.declared.Refusal.TheVariants as refusal
use Rattle.move_ledger.specs.Graph.{Load}
use Rattle.move_ledger.specs.Answer.{Answer, refused, is_refused, number}
use Rattle.move_ledger.specs.Answer as answer
use Rattle.move_ledger.specs.Ledger.{Ledger, loaded, Question, atom_set, edge_count, edge_at, has_cycle, ask}
use Rattle.move_ledger.specs.Ledger as ledger
use Rattle.move_ledger.specs.Loading.{loading, entry_sets}
use Rattle.move_area.specs.Calls.{asked}
use Rattle.move_area.specs.Calls as calls
use Rattle.moves_replies.specs.Words.{reply, load_reply}
use Rattle.moves_load_commands.specs.declared.Command.{Command}
use Rattle.moves_load_commands.specs.declared.Machine.{Machine}
use Rattle.moves_load_commands.specs.declared.Reading.{Reading}
use Rattle.moves_load_commands.specs.Machine.{new_reading, done, taken, start, read}

-- every load has room for 96 sets, and 16 entry bits
abbrev pub N : ℕ
N = 96

-- an answer, and the graph afterwards
pub record Replied (G : Type 0) : Type 0 where
  pub answer : Answer
  pub graph : G

-- the calls of a move graph with N = 96, however it is kept
pub record Graphs (G : Type 0) : Type 0 where
  pub new : Load → List ℕ → G → Replied G
  pub move : Load → G → ℕ → List ℕ → Replied G
  pub asks : Load → G → Question → Answer

-- no atom is fixed: of 48 marks as many as atoms, each of them 0
abbrev pub unmarked : Load → List ℕ
unmarked load = take load.A (replicate 48 0)

-- kept as the plain ledger; the program's work area is one array of 16,384 numbers
abbrev pub ledgers : Graphs Ledger
ledgers =
    record {
      new = λ load sets l. record { answer = loading load (unmarked load) N sets 16384; graph = loaded (entry_sets load sets) };
      move = λ load l a s. record { answer = (ledger.move load (unmarked load) N l a s).answer; graph = (ledger.move load (unmarked load) N l a s).after };
      asks = λ load l q. ask load l.place q;
    }

-- kept in an area
abbrev pub areas : Graphs (List ℕ)
areas =
    record {
      new = λ load sets area. record { answer = (calls.new load (unmarked load) N sets area).answer; graph = (calls.new load (unmarked load) N sets area).area };
      move = λ load area a s. record { answer = (calls.try_move load (unmarked load) N area a s).answer; graph = (calls.try_move load (unmarked load) N area a s).area };
      asks = λ load area q. asked load (unmarked load) N area q;
    }

-- the program's state; `starts` is worked out at the load
pub record State (G : Type 0) : Type 0 where
  pub reading : Reading
  pub starts : List ℕ
  pub graph : G

-- the state after a byte, and the reply to it
pub record Turn (G : Type 0) : Type 0 where
  pub after : State G
  pub reply : List ℕ

-- the load that is lent: the lists have room for more than they hold
abbrev pub lent : Reading → List ℕ → Load
lent s starts =
    let m = s.machine in
    record {
      A = m.atoms;
      D = m.entries;
      E = 16;
      starts = take (m.atoms + 1) starts;
      dependencies = take m.entries s.dependencies;
      hosts = s.hosts;
    }

abbrev pub load_of : {G : Type 0} → State G → Load
load_of st = lent st.reading st.starts

-- another machine, another graph
abbrev pub with_machine : {G : Type 0} → State G → Machine → State G
with_machine st m = record { reading = record st.reading { machine = m }; starts = st.starts; graph = st.graph }

abbrev pub with_graph : {G : Type 0} → State G → Machine → G → State G
with_graph st m g = record { reading = record st.reading { machine = m }; starts = st.starts; graph = g }

-- what is said of a command that can't be
abbrev pub refusal_line : List ℕ
refusal_line = reply (refused (row refusal.BadCommand))

-- 10 to 12 print only refusals, and a refusal stops the program
abbrev pub quiet : {G : Type 0} → State G → Turn G
quiet st = record { after = st; reply = cond st.reading.machine.stopped refusal_line [] }

-- after a load that isn't refused the moves begin
abbrev pub begun : Machine → Bool → Machine
begun m stops = record m { moving = true; stopped = stops; command = None }

-- where each atom's dependencies start, and the last one's end
abbrev pub started : {G : Type 0} → State G → State G
started st =
    let m = st.reading.machine in
    record {
      reading = st.reading;
      starts = patch 0 (tab (start st.reading.sources m.entries) (m.atoms + 1)) st.starts;
      graph = st.graph;
    }

-- 21 gives a line for each edge, its two sets and its multiplicity, then the count of distinct edges: the first n lines
unfoldable pub lines : (Question → Answer) → ℕ → List ℕ
lines asks zero = []
lines asks (suc n) = lines asks n ++ reply (asks (edge_at n))

abbrev pub lines_of : (Question → Answer) → Answer → List ℕ
lines_of asks (number n) = lines asks n
lines_of asks (refused q) = []
lines_of asks answer.acyclic = []
lines_of asks answer.cyclic = []
lines_of asks (answer.accepted r) = []
lines_of asks answer.rejected = []
lines_of asks (answer.set s) = []
lines_of asks (answer.edge e) = []
lines_of asks answer.none = []

unfoldable pub listing : (Question → Answer) → List ℕ
listing asks = lines_of asks (asks edge_count) ++ reply (asks edge_count)

-- at the end of the input the program prints nothing more, but for a cut command
unfoldable pub finish : Machine → List ℕ
finish m = cond (not m.stopped && is_some m.command) refusal_line []

module _ {G : Type 0} (graphs : Graphs G) where
  -- 13: load, once. After a load that is refused the program stops
  unfoldable pub load : State G → Turn G
  load st =
      let s = started st in
      let m = st.reading.machine in
      let r = graphs.new (load_of s) (take m.atoms st.reading.sets) st.graph in
      record { after = with_graph s (begun m (is_refused r.answer)) r.graph; reply = load_reply r.answer }

  -- 20: atom x to set y
  unfoldable pub move : Command → State G → Turn G
  move c st =
      let m = st.reading.machine in
      let r = graphs.move (load_of st) st.graph c.x (c.y ∷ []) in
      record { after = with_graph st (done m) r.graph; reply = reply r.answer }

  unfoldable pub edges : State G → Turn G
  edges st = record { after = with_machine st (done st.reading.machine); reply = listing (graphs.asks (load_of st) st.graph) }

  -- 22: the set of atom y
  unfoldable pub set_command : Command → State G → Turn G
  set_command c st = record { after = with_machine st (done st.reading.machine); reply = reply (graphs.asks (load_of st) st.graph (atom_set c.y)) }

  -- 23: whether there is a cycle, by the book's search
  unfoldable pub cycle : State G → Turn G
  cycle st = record { after = with_machine st (done st.reading.machine); reply = reply (graphs.asks (load_of st) st.graph has_cycle) }

  -- a command whose operands are read
  unfoldable pub execute : Command → State G → Turn G
  execute c st =
      cond (leb c.number 18) (quiet (record { reading = read c st.reading; starts = st.starts; graph = st.graph }))
      (cond (eqb c.number 19) (load st)
      (cond (eqb c.number 32) (move c st)
      (cond (eqb c.number 33) (edges st)
      (cond (eqb c.number 34) (set_command c st)
      (cycle st)))))

  -- once a byte is read: nothing yet where operands are still to come
  abbrev pub run : Option Command → State G → Turn G
  run None st = quiet st
  run (Some c) st = cond (eqb c.wanted 0) (execute c st) (quiet st)

  -- a byte of the input; once the program has stopped nothing happens
  unfoldable pub step : State G → ℕ → Turn G
  step st b =
      let m = taken st.reading.machine b in
      cond st.reading.machine.stopped (record { after = st; reply = [] }) (run m.command (with_machine st m))

  -- every reply to an input
  unfoldable pub replies : State G → List ℕ → List ℕ
  replies st [] = finish st.reading.machine
  replies st (b ∷ bs) = (step st b).reply ++ replies (step st b).after bs

-- before the first byte
abbrev pub fresh : {G : Type 0} → G → State G
fresh g = record { reading = new_reading; starts = replicate 49 0; graph = g }

-- what the program prints to an input
unfoldable pub printed : List ℕ → List ℕ
printed input = replies ledgers (fresh (loaded [])) input
