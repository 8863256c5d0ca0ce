-- The lists of a reading keep their lengths, whatever byte is read. Assumes nothing.
use Rattle.std.specs.Prelude.{refl, ◌||◌, not, Option, Some, None, List, ℕ, leb, eqb}
use Rattle.std.proofs.Common.{sym, subst, ◌∙◌}
use Rattle.std.proofs.Math.ListN.{length-set}
use Rattle.layout.specs.Patch.{patch_long}
use Rattle.move_ledger.specs.Graph.{at, none}
use Rattle.moves_replies.specs.declared.Replies.{Replies}
use Rattle.moves_load_commands.specs.declared.Command.{Command}
use Rattle.moves_load_commands.specs.declared.Machine.{Machine}
use Rattle.moves_load_commands.specs.declared.Reading.{Reading}
use Rattle.moves_load_commands.specs.Machine.{taken, inserted, unnamed, add_atom, depend, add_host, read}
use Rattle.moves_commands.specs.Program.{Graphs, State, Turn, areas, with_machine, load, move, edges, set_command, cycle, execute, run, step}
use Rattle.moves_commands.specs.Fits.{either}
use Rattle.moves_commands.specs.Steps.{Long, Stepped}

pub long_refl : (s : Reading) → Long s s
long_refl s = record { sets = refl; sources = refl; dependencies = refl; hosts = refl }

pub long_trans : {a b c : Reading} → Long a b → Long b c → Long a c
long_trans p q = record { sets = q.sets ∙ p.sets; sources = q.sources ∙ p.sources; dependencies = q.dependencies ∙ p.dependencies; hosts = q.hosts ∙ p.hosts }

module _ (s : Reading) where
  -- another machine, the same lists
  turned_long : (m : Machine) → Long s (record s { machine = m })
  turned_long m = record { sets = refl; sources = refl; dependencies = refl; hosts = refl }

  add_atom-long : (c : Command) → Long s (add_atom c s)
  unfolding add_atom
  add_atom-long c =
      either (Long s) (leb 48 s.machine.atoms) _ _ (λ e. turned_long _)
      (λ e. record { sets = rw length-set refl; sources = refl; dependencies = refl; hosts = refl })

  depend-long : (c : Command) → Long s (depend c s)
  unfolding depend inserted
  depend-long c =
      let m = s.machine in
      either (Long s) (unnamed m c.x || (unnamed m c.y || leb 128 m.entries)) _ _ (λ e. turned_long _)
      (λ e. record { sets = refl; sources = rw patch_long refl; dependencies = rw patch_long refl; hosts = refl })

  add_host-long : (c : Command) → Long s (add_host c s)
  unfolding add_host
  add_host-long c =
      let m = s.machine in
      either (Long s) (leb 16 c.x || (unnamed m c.y || not (eqb (at s.hosts c.x) none))) _ _ (λ e. turned_long _)
      (λ e. record { sets = refl; sources = refl; dependencies = refl; hosts = rw length-set refl })

  read_long : (c : Command) → Long s (read c s)
  unfolding read
  read_long c =
      either (Long s) (eqb c.number 16) _ _ (λ e. add_atom-long c) (λ e. either (Long s) (eqb c.number 17) _ _ (λ e. depend-long c) (λ e. add_host-long c))

module _ {G : Type 0} (graphs : Graphs G) where
  -- a turn after which a reading's lists are as long as those of s
  abbrev Kept : Reading → Turn G → Type 0
  Kept s t = Long s t.after.reading

  execute_long : (c : Command) (st : State G) → Kept st.reading (execute graphs c st)
  unfolding execute load move edges set_command cycle
  execute_long c st =
      let s = st.reading in
      either (Kept s) (leb c.number 18) _ _ (λ e. read_long s c)
      (λ e. either (Kept s) (eqb c.number 19) _ _ (λ e. turned_long s _)
      (λ e. either (Kept s) (eqb c.number 32) _ _ (λ e. turned_long s _)
      (λ e. either (Kept s) (eqb c.number 33) _ _ (λ e. turned_long s _)
      (λ e. either (Kept s) (eqb c.number 34) _ _ (λ e. turned_long s _) (λ e. turned_long s _)))))

  step_long : (st : State G) (b : ℕ) → Kept st.reading (step graphs st b)
  unfolding step
  step_long st b =
      let s = st.reading in
      either (Kept s) s.machine.stopped _ _ (λ e. long_refl s) (λ e. go m.command)
    where
      m : Machine
      m = taken st.reading.machine b

      go : (o : Option Command) → Kept st.reading (run graphs o (with_machine st m))
      go None = turned_long st.reading _
      go (Some c) =
          either (Kept st.reading) (eqb c.wanted 0) _ _ (λ e. long_trans (turned_long st.reading m) (execute_long c (with_machine st m))) (λ e. turned_long st.reading m)

-- of the interpreter's own step
pub stepped_long : (st : State (List ℕ)) (b : ℕ) {st' : State (List ℕ)} {old new : Replies} → Stepped (step areas st b) st' old new → Long st.reading st'.reading
stepped_long st b w = subst (λ (u : State (List ℕ)). Long st.reading u.reading) (sym w.after) (step_long areas st b)
