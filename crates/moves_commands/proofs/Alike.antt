-- Theorems on the definitions of specs/Program: they stand here, so that the crate can be read with a definition changed. Assumes nothing.
use Rattle.std.specs.Prelude.{◌≡◌, Bool, cond, ◌&&◌, ◌||◌, Option, Some, None, is_some, eqb, length}
use Rattle.std.proofs.Math.Path.{refl, ap, fun_ext}
use Rattle.std.proofs.Common.{sym, ap₂, ◌∙◌, true≢false, arith}
use Rattle.std.proofs.Math.Bool.{true, false, not}
use mathlib.Core.List.{List, [], ◌∷◌, ◌++◌}
use Prim.Native.Nat.{ℕ}
use Rattle.std.proofs.Math.Dec.{leb}
use Rattle.std.proofs.Math.ListN.{take}
use borrow.Author.Tests.{leb-true, leb-false, lt-leb, le-leb, eqb-true, eqb-false, not-true}
use Rattle.move_ledger.specs.Graph.{Load, at, none}
use Rattle.move_ledger.specs.Answer.{Answer, is_refused}
use Rattle.move_ledger.specs.Ledger.{Ledger, atom_set, has_cycle, ask, try_move, asks, call}
use Rattle.move_ledger.specs.Loading.{loading}
use Rattle.move_area.specs.Area as area
use Rattle.move_area.specs.Calls as calls
use Rattle.move_area.specs.History.{Holding, call_area, call_step, loading-holds}
use Rattle.moves_replies.specs.Words.{reply, load_reply}
use Rattle.moves_load_commands.specs.declared.Command.{Command}
use Rattle.moves_load_commands.specs.declared.Machine.{Machine}
use Rattle.moves_load_commands.specs.declared.Reading.{Reading}
use Rattle.moves_load_commands.specs.Machine.{belongs, operand, taken, taken_by, done, unnamed, refuse, add_atom, depend, add_host, read}
use Rattle.moves_commands.specs.Program.{N, unmarked, ledgers, areas, State, Turn, lent, listing, load, move, edges, set_command, cycle, execute, run, step, finish, replies, fresh, printed, started, begun, load_of, with_graph, quiet}
use Rattle.moves_commands.specs.Fits.{taken-same, either}

abbrev state : {G : Type 0} → Reading → List ℕ → G → State G
state s starts g = record { reading = s; starts = starts; graph = g }

-- the area holds a state of the ledger l
record Kept (load : Load) (numbers : List ℕ) (l : Ledger) : Type 0 where
  held : area.State
  holding : Holding load (unmarked load) N numbers held
  follows : held.ledger ≡ l

-- a command that is being read belongs to the phase
abbrev in_phase : Bool → Option Command → Bool
in_phase moving None = true
in_phase moving (Some c) = belongs c.number moving

abbrev In-phase : Machine → Type 0
In-phase m = in_phase m.moving m.command ≡ true

-- before the load the area is as long as the program's; after it the area holds the ledger
record Linked (s : Reading) (starts area : List ℕ) (l : Ledger) : Type 0 where
  before : s.machine.moving ≡ false → length area ≡ 16384
  after : s.machine.stopped ≡ false → s.machine.moving ≡ true → Kept (lent s starts) area l
  phase : s.machine.stopped ≡ false → In-phase s.machine

record Alike (t : Turn (List ℕ)) (u : Turn Ledger) : Type 0 where
  reply : t.reply ≡ u.reply
  reading : t.after.reading ≡ u.after.reading
  starts : t.after.starts ≡ u.after.starts
  linked : Linked t.after.reading t.after.starts t.after.graph u.after.graph

-- what holds of both ways of one test of two
both_ways : {A B : Type 0} (P : A → B → Type 0) (t : Bool) (x y : A) (u v : B) → (t ≡ true → P x u) → (t ≡ false → P y v) → P (cond t x y) (cond t u v)
both_ways P true x y u v f g = f refl
both_ways P false x y u v f g = g refl

-- which phase a command belongs to
low_phase : (c : ℕ) (moving : Bool) → leb c 19 ≡ true → belongs c moving ≡ true → moving ≡ false
low_phase c moving h = go (leb 16 c) refl
  where
    go : (t : Bool) → leb 16 c ≡ t → cond (t && leb c 19) (not moving) (cond (leb 32 c && leb c 35) moving false) ≡ true → moving ≡ false
    go true e q = not-true moving (rw h at q)
    go false e q = absurd (true≢false (sym (rw (lt-leb 32 c (omega (arith, leb-false 16 c e))) at q)))

high_phase : (c : ℕ) (moving : Bool) → leb c 19 ≡ false → belongs c moving ≡ true → moving ≡ true
high_phase c moving h = rw h (go (leb 16 c) (leb 32 c && leb c 35))
  where
    go : (t u : Bool) → cond (t && false) (not moving) (cond u moving false) ≡ true → moving ≡ true
    go true true q = q
    go true false q = absurd (true≢false (sym q))
    go false true q = q
    go false false q = absurd (true≢false (sym q))

-- a byte that is read
operand-number : (c : Command) (b : ℕ) → (operand c b).number ≡ c.number
unfolding operand
operand-number c b =
    let P : Command → Type 0 = λ d. d.number ≡ c.number in
    either P (eqb c.wanted 4) _ _ (λ e. refl) (λ e. either P (eqb c.wanted 3) _ _ (λ e. refl) (λ e. either P (eqb c.wanted 2) _ _ (λ e. refl) (λ e. refl)))

taken-moving : (m : Machine) (b : ℕ) → (taken m b).moving ≡ m.moving
unfolding taken
taken-moving m b = go m.command
  where
    go : (o : Option Command) → (taken_by m b o).moving ≡ m.moving
    go None = either (λ (n : Machine). n.moving ≡ m.moving) (belongs b m.moving) _ _ (λ e. refl) (λ e. refl)
    go (Some c) = refl

taken_phase : (m : Machine) (b : ℕ) → In-phase m → (taken m b).stopped ≡ false → In-phase (taken m b)
unfolding taken
taken_phase m b = go m.command
  where
    go : (o : Option Command) → in_phase m.moving o ≡ true → (taken_by m b o).stopped ≡ false → In-phase (taken_by m b o)
    go None h = either (λ (n : Machine). n.stopped ≡ false → In-phase n) (belongs b m.moving) _ _ (λ e s. e) (λ e s. absurd (true≢false s))
    go (Some c) h = λ s. rw (operand-number c b) h

-- where a command is being read the program goes on
taken_on : (m : Machine) (b : ℕ) → m.stopped ≡ false → (c : Command) → (taken m b).command ≡ Some c → (taken m b).stopped ≡ false
unfolding taken
taken_on m b h c = go m.command refl
  where
    P : Machine → Type 0
    P n = n.command ≡ Some c → n.stopped ≡ false

    go : (o : Option Command) → m.command ≡ o → P (taken_by m b o)
    go None e = either P (belongs b m.moving) _ _ (λ f q. h) (λ f q. absurd (true≢false (ap (λ (o : Option Command). is_some o) (sym q ∙ e))))
    go (Some d) e = λ q. h

-- 10, 11 and 12 stay before the load, and are done where they aren't refused
record Quiet (s r : Reading) : Type 0 where
  moving : r.machine.moving ≡ s.machine.moving
  done : r.machine.stopped ≡ false → r.machine.command ≡ None

module _ (s : Reading) (c : Command) where
  refused_quiet : Quiet s (refuse s)
  refused_quiet = record { moving = refl; done = λ e. absurd (true≢false e) }

  read-quiet : Quiet s (read c s)
  unfolding read add_atom depend add_host
  read-quiet =
      let P : Reading → Type 0 = Quiet s in
      either P (eqb c.number 16) _ _
      (λ e. either P (leb 48 s.machine.atoms) _ _ (λ e. refused_quiet) (λ e. record { moving = refl; done = λ e. refl }))
      (λ e. either P (eqb c.number 17) _ _
      (λ e. either P (unnamed s.machine c.x || (unnamed s.machine c.y || leb 128 s.machine.entries)) _ _ (λ e. refused_quiet) (λ e. record { moving = refl; done = λ e. refl }))
      (λ e. either P (leb 16 c.x || (unnamed s.machine c.y || not (eqb (at s.hosts c.x) none))) _ _ (λ e. refused_quiet) (λ e. record { moving = refl; done = λ e. refl })))

module _ {s : Reading} {starts area : List ℕ} {l : Ledger} (k : Linked s starts area l) where
  -- the two answer alike
  module _ (go_on : s.machine.stopped ≡ false) where
    module _ (moving : s.machine.moving ≡ true) where
      asks_alike : areas.asks (lent s starts) area ≡ ledgers.asks (lent s starts) l
      unfolding call_area call
      asks_alike =
          let h = k.after go_on moving in
          fun_ext (λ q. (call_step _ _ N area h.held (asks q) h.holding).answers ∙ ap (λ (u : Ledger). ask (lent s starts) u.place q) h.follows)

      -- a question leaves everything
      done-linked : Linked (record s { machine = done s.machine }) starts area l
      done-linked = record { before = k.before; after = λ e f. k.after go_on moving; phase = λ e. refl }

      edges_alike : Alike (edges areas (state s starts area)) (edges ledgers (state s starts l))
      unfolding edges
      edges_alike = record { reply = ap listing asks_alike; reading = refl; starts = refl; linked = done-linked }

      set_alike : (c : Command) → Alike (set_command areas c (state s starts area)) (set_command ledgers c (state s starts l))
      unfolding set_command
      set_alike c = record { reply = ap (λ f. reply (f (atom_set c.y))) asks_alike; reading = refl; starts = refl; linked = done-linked }

      cycle_alike : Alike (cycle areas (state s starts area)) (cycle ledgers (state s starts l))
      unfolding cycle
      cycle_alike = record { reply = ap (λ f. reply (f has_cycle)) asks_alike; reading = refl; starts = refl; linked = done-linked }

      move_alike : (c : Command) → Alike (move areas c (state s starts area)) (move ledgers c (state s starts l))
      unfolding move call_area call
      move_alike c =
          let h = k.after go_on moving in
          let q = call_step _ _ N area h.held (try_move c.x (c.y ∷ [])) h.holding in
          record {
            reply = ap reply (q.answers ∙ ap (λ (u : Ledger). (call (lent s starts) (unmarked (lent s starts)) N u (try_move c.x (c.y ∷ []))).answer) h.follows);
            reading = refl;
            starts = refl;
            linked =
                record {
                  before = λ e. absurd (true≢false (sym moving ∙ e));
                  after = λ e f. record { held = q.next; holding = q.holds; follows = q.follows ∙ ap (λ (u : Ledger). (call (lent s starts) (unmarked (lent s starts)) N u (try_move c.x (c.y ∷ []))).after) h.follows };
                  phase = λ e. refl;
                };
          }

    -- the load
    load_alike : s.machine.moving ≡ false → Alike (load areas (state s starts area)) (load ledgers (state s starts l))
    unfolding load calls.new
    load_alike before =
        let st : State (List ℕ) = started (state s starts area) in
        let x : List ℕ = take s.machine.atoms s.sets in
        let e : loading (load_of st) (unmarked (load_of st)) N x (length area) ≡ loading (load_of st) (unmarked (load_of st)) N x 16384 = ap (λ n. loading (load_of st) (unmarked (load_of st)) N x n) (k.before before) in
        record {
          reply = ap load_reply e;
          reading = ap (λ (a : Answer). (with_graph st (begun s.machine (is_refused a)) area).reading) e;
          starts = refl;
          linked =
              record {
                before = λ f. absurd (true≢false f);
                after = λ f g. record { held = calls.first (load_of st) N x; holding = loading-holds (load_of st) (unmarked (load_of st)) N x area f; follows = refl };
                phase = λ f. refl;
              };
        }

    -- a command
    execute_alike : (c : Command) → belongs c.number s.machine.moving ≡ true → Alike (execute areas c (state s starts area)) (execute ledgers c (state s starts l))
    unfolding execute
    execute_alike c p =
        both_ways Alike (leb c.number 18) _ _ _ _ (λ e. quiet_read (low_phase c.number _ (le-leb c.number 19 (omega (arith, leb-true c.number 18 e))) p))
        (λ e. both_ways Alike (eqb c.number 19) _ _ _ _ (λ f. load_alike (low_phase c.number _ (le-leb c.number 19 (omega (arith, eqb-true c.number 19 f))) p))
        (λ f. let moving : s.machine.moving ≡ true = high_phase c.number _ (lt-leb c.number 19 (omega (arith, leb-false c.number 18 e, eqb-false c.number 19 f))) p in
        both_ways Alike (eqb c.number 32) _ _ _ _ (λ g. move_alike moving c)
        (λ g. both_ways Alike (eqb c.number 33) _ _ _ _ (λ h. edges_alike moving) (λ h. both_ways Alike (eqb c.number 34) _ _ _ _ (λ i. set_alike moving c) (λ i. cycle_alike moving)))))
      where
        quiet_read : s.machine.moving ≡ false → Alike (quiet (state (read c s) starts area)) (quiet (state (read c s) starts l))
        quiet_read b =
            let q = read-quiet s c in
            record {
              reply = refl;
              reading = refl;
              starts = refl;
              linked =
                  record {
                    before = λ e. k.before b;
                    after = λ e f. absurd (true≢false (sym f ∙ q.moving ∙ b));
                    phase = λ e. rw (q.done e) refl;
                  };
            }

-- once a byte is read
run_alike : {s : Reading} {starts area : List ℕ} {l : Ledger} (o : Option Command) → s.machine.command ≡ o → ((c : Command) → o ≡ Some c → s.machine.stopped ≡ false)
    → Linked s starts area l → Alike (run areas o (state s starts area)) (run ledgers o (state s starts l))
run_alike None e g k = record { reply = refl; reading = refl; starts = refl; linked = k }
run_alike (Some c) e g k =
    both_ways Alike (eqb c.wanted 0) _ _ _ _ (λ f. let h = g c refl in execute_alike k h c (rw e at k.phase h)) (λ f. record { reply = refl; reading = refl; starts = refl; linked = k })

step_alike : {s : Reading} {starts area : List ℕ} {l : Ledger} (b : ℕ) → Linked s starts area l → Alike (step areas (state s starts area) b) (step ledgers (state s starts l) b)
unfolding step
step_alike {s} {starts} {area} {l} b k =
    both_ways Alike s.machine.stopped _ _ _ _ (λ e. record { reply = refl; reading = refl; starts = refl; linked = k })
    (λ e. run_alike (taken s.machine b).command refl (taken_on s.machine b e) (byte e))
  where
    byte : s.machine.stopped ≡ false → Linked (record s { machine = taken s.machine b }) starts area l
    byte e =
        let q = taken-same s.machine b in
        record {
          before = λ f. k.before (sym (taken-moving s.machine b) ∙ f);
          after = λ f g. rw (q.0, q.1) (k.after e (sym (taken-moving s.machine b) ∙ g));
          phase = λ f. taken_phase s.machine b (k.phase e) f;
        }

replies_alike : (bs : List ℕ) {s : Reading} {starts area : List ℕ} {l : Ledger} → Linked s starts area l → replies areas (state s starts area) bs ≡ replies ledgers (state s starts l) bs
unfolding replies finish
replies_alike [] k = refl
replies_alike (b ∷ bs) {s} {starts} {area} {l} k =
    let a = step_alike b k in
    let u : Turn Ledger = step ledgers (state s starts l) b in
    ap₂ {A = List ℕ} {B = List ℕ} ◌++◌ a.reply
    (replies_alike bs a.linked
    ∙ ap (λ (r : Reading). replies ledgers (state r (step areas (state s starts area) b).after.starts u.after.graph) bs) a.reading
    ∙ ap (λ (v : List ℕ). replies ledgers (state u.after.reading v u.after.graph) bs) a.starts)

-- from its first byte on the program over an area of 16,384 numbers, whatever they are, prints what the ledger's program prints
pub prints : (area : List ℕ) → length area ≡ 16384 → (input : List ℕ) → replies areas (fresh area) input ≡ printed input
unfolding printed
prints area h input = replies_alike input (record { before = λ e. h; after = λ e f. absurd (true≢false (sym f)); phase = λ e. refl })
