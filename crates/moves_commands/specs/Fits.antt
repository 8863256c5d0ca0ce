-- The program's lists have room for its limits, and keep it. Assumes nothing.
use Rattle.std.specs.Prelude.{◌≡◌, refl, Bool, true, false, cond, ◌&&◌, ◌||◌, Option, Some, None, List, ℕ, ◌≤◌, eqb, length}
use Rattle.std.proofs.Math.Bool.{not}
use Rattle.std.proofs.Common.{arith}
use Rattle.std.proofs.Math.Dec.{leb}
use Rattle.std.proofs.Math.ListN.{length-set}
use borrow.Author.Tests.{leb-false, leb-true}
use Rattle.graphs.specs.Bools.{or_false_right, and_left, and_right}
use Rattle.layout.specs.Patch.{patch_long}
use Rattle.move_ledger.specs.Graph.{at, none}
use Rattle.moves_load_commands.specs.declared.Command.{Command}
use Rattle.moves_load_commands.specs.declared.Machine.{Machine}
use Rattle.moves_load_commands.specs.declared.Reading.{Reading}
use Rattle.moves_load_commands.specs.Lists.{Roomy}
use Rattle.moves_load_commands.specs.Machine.{belongs, taken, taken_by, inserted, unnamed, add_atom, depend, add_host, read}
use Rattle.moves_commands.specs.Program.{Graphs, State, Turn, with_machine, load, move, edges, set_command, cycle, execute, run, step}

-- room for 48 atoms and 128 dependencies, 16 hosts, and no more named
pub record Fits (s : Reading) (starts : List ℕ) : Type 0 where
  pub roomy : Roomy s.sets s.sources s.dependencies s.hosts
  pub for_starts : 49 ≤ length starts
  pub atoms : s.machine.atoms ≤ 48
  pub entries : s.machine.entries ≤ 128

abbrev pub fits : Reading → List ℕ → Bool
fits s starts =
    (leb 48 (length s.sets) && (leb 128 (length s.sources) && (leb 128 (length s.dependencies) && leb 16 (length s.hosts))))
    && (leb 49 (length starts) && (leb s.machine.atoms 48 && leb s.machine.entries 128))

pub fits_true : (s : Reading) (starts : List ℕ) → fits s starts ≡ true → Fits s starts
fits_true s starts h =
    let lists = leb 48 (length s.sets) && (leb 128 (length s.sources) && (leb 128 (length s.dependencies) && leb 16 (length s.hosts))) in
    let a = and_left lists _ h in
    let b = and_right lists _ h in
    let a₁ = and_right (leb 48 (length s.sets)) _ a in
    let a₂ = and_right (leb 128 (length s.sources)) _ a₁ in
    let b₁ = and_right (leb 49 (length starts)) _ b in
    record {
      roomy =
          record {
            for_sets = leb-true 48 _ (and_left _ _ a);
            for_sources = leb-true 128 _ (and_left _ _ a₁);
            for_dependencies = leb-true 128 _ (and_left _ _ a₂);
            for_hosts = leb-true 16 _ (and_right (leb 128 (length s.dependencies)) _ a₂);
          };
      for_starts = leb-true 49 _ (and_left _ _ b);
      atoms = leb-true _ 48 (and_left _ _ b₁);
      entries = leb-true _ 128 (and_right (leb s.machine.atoms 48) _ b₁);
    }

-- a machine with as many atoms and dependencies
abbrev pub Same : Machine → Machine → Type 0
Same m n = (n.atoms ≡ m.atoms) × (n.entries ≡ m.entries)

-- what holds of both ways of a test
pub either : {A : Type 0} (P : A → Type 0) (t : Bool) (x y : A) → (t ≡ true → P x) → (t ≡ false → P y) → P (cond t x y)
either P true x y f g = f refl
either P false x y f g = g refl

pub taken-same : (m : Machine) (b : ℕ) → Same m (taken m b)
unfolding taken
taken-same m b = go m.command
  where
    go : (o : Option Command) → Same m (taken_by m b o)
    go None = either (Same m) (belongs b m.moving) _ _ (λ e. (refl, refl)) (λ e. (refl, refl))
    go (Some c) = (refl, refl)

module _ {s : Reading} {starts : List ℕ} (f : Fits s starts) where
  -- another machine with as much named
  same-fits : (n : Machine) → Same s.machine n → Fits (record s { machine = n }) starts
  same-fits n e = record { roomy = f.roomy; for_starts = f.for_starts; atoms = rw e.0 f.atoms; entries = rw e.1 f.entries }

  -- a byte that is read changes no list
  pub taken-ready : {m : Machine} (b : ℕ) → m ≡ taken s.machine b → Fits (record s { machine = m }) starts
  taken-ready b e = rw e (same-fits (taken s.machine b) (taken-same s.machine b))

  add_atom-fits : (c : Command) → Fits (add_atom c s) starts
  unfolding add_atom
  add_atom-fits c =
      either (λ s. Fits s starts) (leb 48 s.machine.atoms) _ _ (λ e. same-fits _ (refl, refl))
      (λ e.
      record {
        roomy =
            record {
              for_sets = simp length-set f.roomy.for_sets;
              for_sources = f.roomy.for_sources;
              for_dependencies = f.roomy.for_dependencies;
              for_hosts = f.roomy.for_hosts;
            };
        for_starts = f.for_starts;
        atoms = omega (arith, leb-false 48 s.machine.atoms e);
        entries = f.entries;
      })

  depend-fits : (c : Command) → Fits (depend c s) starts
  unfolding depend inserted
  depend-fits c =
      let m = s.machine in
      either (λ s. Fits s starts) (unnamed m c.x || (unnamed m c.y || leb 128 m.entries)) _ _ (λ e. same-fits _ (refl, refl))
      (λ e.
      record {
        roomy =
            record {
              for_sets = f.roomy.for_sets;
              for_sources = simp patch_long f.roomy.for_sources;
              for_dependencies = simp patch_long f.roomy.for_dependencies;
              for_hosts = f.roomy.for_hosts;
            };
        for_starts = f.for_starts;
        atoms = f.atoms;
        entries = omega (arith, leb-false 128 m.entries (or_false_right (unnamed m c.y) _ (or_false_right (unnamed m c.x) _ e)));
      })

  add_host-fits : (c : Command) → Fits (add_host c s) starts
  unfolding add_host
  add_host-fits c =
      let m = s.machine in
      either (λ s. Fits s starts) (leb 16 c.x || (unnamed m c.y || not (eqb (at s.hosts c.x) none))) _ _ (λ e. same-fits _ (refl, refl))
      (λ e.
      record {
        roomy =
            record {
              for_sets = f.roomy.for_sets;
              for_sources = f.roomy.for_sources;
              for_dependencies = f.roomy.for_dependencies;
              for_hosts = simp length-set f.roomy.for_hosts;
            };
        for_starts = f.for_starts;
        atoms = f.atoms;
        entries = f.entries;
      })

  pub read_fits : (c : Command) → Fits (read c s) starts
  unfolding read
  read_fits c =
      either (λ s. Fits s starts) (eqb c.number 16) _ _ (λ e. add_atom-fits c)
      (λ e. either (λ s. Fits s starts) (eqb c.number 17) _ _ (λ e. depend-fits c) (λ e. add_host-fits c))

-- so does a state
abbrev pub Ready : {G : Type 0} → State G → Type 0
Ready st = Fits st.reading st.starts

module _ {G : Type 0} (graphs : Graphs G) where
  execute-fits : (c : Command) (st : State G) → Ready st → Ready (execute graphs c st).after
  unfolding execute load move edges set_command cycle
  execute-fits c st f =
      let P : Turn G → Type 0 = λ t. Ready t.after in
      either P (leb c.number 18) _ _ (λ e. read_fits f c)
      (λ e. either P (eqb c.number 19) _ _ (λ e. record { roomy = f.roomy; for_starts = simp patch_long f.for_starts; atoms = f.atoms; entries = f.entries })
      (λ e. either P (eqb c.number 32) _ _ (λ e. same-fits f _ (refl, refl))
      (λ e. either P (eqb c.number 33) _ _ (λ e. same-fits f _ (refl, refl))
      (λ e. either P (eqb c.number 34) _ _ (λ e. same-fits f _ (refl, refl)) (λ e. same-fits f _ (refl, refl))))))

  pub step_fits : (st : State G) (b : ℕ) → Ready st → Ready (step graphs st b).after
  unfolding step
  step_fits st b f =
      let m = taken st.reading.machine b in
      let P : Turn G → Type 0 = λ t. Ready t.after in
      let t : Ready (with_machine st m) = same-fits f m (taken-same st.reading.machine b) in
      either P st.reading.machine.stopped _ _ (λ e. f) (λ e. go m.command (with_machine st m) t)
    where
      go : (o : Option Command) (st : State G) → Ready st → Ready (run graphs o st).after
      go None st f = f
      go (Some c) st f = let P : Turn G → Type 0 = λ t. Ready t.after in either P (eqb c.wanted 0) _ _ (λ e. execute-fits c st f) (λ e. f)
