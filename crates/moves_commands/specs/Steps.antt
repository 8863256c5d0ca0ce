-- What the interpreter's functions ask and show. Assumes nothing.
use Rattle.std.specs.Prelude.{◌≡◌, List, ℕ, ◌+◌, ◌*◌, ◌≤◌, length, get_or}
use Rattle.move_ledger.specs.Graph.{Load}
use Rattle.move_rows.specs.Listed.{RowTold}
use Rattle.moves_replies.specs.Room.{Put}
use Rattle.moves_replies.specs.Wrote.{Wrote}
use Rattle.moves_replies.specs.declared.Replies.{Replies}
use Rattle.moves_load_commands.specs.Lent.{shown}
use Rattle.moves_load_commands.specs.declared.LentReading.{LentReading}
use Rattle.moves_load_commands.specs.declared.Reading.{Reading}
use Rattle.moves_commands.specs.Program.{N, unmarked, State, Turn}
use Rattle.moves_commands.specs.Feed as feed
use Rattle.moves_commands.specs.declared.Interpreter.{Interpreter}
use Rattle.moves_commands.specs.declared.Fed.{Fed}

-- no row from 1 to 6 nor 9 fits, and the edges can be listed by `degrees` and `order`; `known` sets are registered
pub record CanList (load : Load) (area : List ℕ) (known : ℕ) (order degrees : List ℕ) : Type 0 where
  pub told : RowTold load (unmarked load) N area degrees order 0
  pub sets : known ≡ get_or area (N * N) 0

-- and there are few of them
pub record CanListAll (load : Load) (area order degrees : List ℕ) : Type 0 where
  pub told : RowTold load (unmarked load) N area degrees order 0
  pub few : load.D + load.E ≤ 144

-- a load of the program's size
pub record CanListEdges (load : Load) : Type 0 where
  pub atoms : load.A ≤ 48
  pub few : load.D + load.E ≤ 144

-- the state that the interpreter holds
abbrev pub held : Interpreter → State (List ℕ)
held i = record { reading = i.reading; starts = i.starts; graph = i.area }

-- the state that lent lists hold
abbrev pub lent_held : LentReading → List ℕ → List ℕ → State (List ℕ)
lent_held r starts area = record { reading = shown r; starts = starts; graph = area }

-- each list of a reading is as long as it was
pub record Long (s s' : Reading) : Type 0 where
  pub sets : length s'.sets ≡ length s.sets
  pub sources : length s'.sources ≡ length s.sources
  pub dependencies : length s'.dependencies ≡ length s.dependencies
  pub hosts : length s'.hosts ≡ length s.hosts

-- the state is a turn's, and its reply is written
pub record Stepped (t : Turn (List ℕ)) (st : State (List ℕ)) (old new : Replies) : Type 0 where
  pub after : st ≡ t.after
  pub wrote : Wrote t.reply old new

-- what a block of the input did
pub record FedAs (f : feed.Fed (List ℕ)) (i : Interpreter) (out out' : List ℕ) (fed : Fed) : Type 0 where
  pub count : fed.used ≡ f.used
  pub after : held i ≡ f.after
  pub put : Put f.written out 0 out' fed.written

-- what it did, of the state that lent lists hold
pub record FedTo (f : feed.Fed (List ℕ)) (st : State (List ℕ)) (out out' : List ℕ) (fed : Fed) : Type 0 where
  pub count : fed.used ≡ f.used
  pub after : st ≡ f.after
  pub put : Put f.written out 0 out' fed.written
