-- A move in node numbers is the ledger's, and leaves the state that `after` says. Assumes nothing.
use Rattle.std.specs.Prelude.{◌≡◌, Bool, List, ℕ, ◌+◌, ◌^◌, ◌≤◌, ◌<◌, eqb, leb, length, set}
use Rattle.std.proofs.Math.Path.{refl, ap}
use Rattle.std.proofs.Common.{◌∙◌}
use Rattle.std.proofs.Math.Bool.{true, false, not, cond}
use borrow.Author.Tests.{lt-leb}
use Rattle.graphs.specs.Count.{count}
use Rattle.graphs.specs.Lists.{has, below}
use Rattle.graphs.specs.Walk.{via}
use Rattle.graph_walks.specs.Marks.{marked}
use Rattle.entry_set.specs.Sets.{value, legal}
use Rattle.move_ledger.specs.Graph.{Load, at}
use Rattle.move_ledger.specs.Answer.{Report, rejected}
use Rattle.move_ledger.specs.Ledger.{Ledger, put, free_place, register, step1, stays, move}
use Rattle.move_ledger.specs.Evict.{place-free, register-old, register-new}
use Rattle.move_ledger.proofs.Evict as evict_laws
use Rattle.move_ledger.specs.MoveLaws.{Passed}
use Rattle.move_ledger.proofs.MoveLaws.{decide-late, decide_unrefused}
use Rattle.move_ledger.specs.LoadLaws.{InOrder}
use Rattle.move_ledger.specs.Nodes.{placed, Placing, sources, targets, node_edge}
use Rattle.move_ledger.specs.NodePlaces.{placing_apart, free_node}
use Rattle.move_edges.specs.Steps.{fresh}
use Rattle.move_area.specs.Area.{State}
use Rattle.move_area.specs.Calls.{next, marks_for, after}
use Rattle.move_area.specs.NodeBodies.{Nodes, state_of}
use Rattle.move_try.specs.Stands.{Stands}
use Rattle.move_try.specs.Changes.{with_raised}
use Rattle.move_try.specs.Registering.{stands-registered}
use Rattle.move_try.specs.Areas.{registered}

-- the ledger's own
abbrev pub ledger_of : Nodes → Ledger
ledger_of s = (state_of s).ledger

-- the place of a new set
abbrev pub next_place : Load → ℕ → Nodes → ℕ
next_place load N s = free_place load N (placed s.nodes s.sets) s.sets

-- the sets with the target registered if unseen
abbrev pub with_target_sets : Load → ℕ → Nodes → ℕ → List ℕ
with_target_sets load N s T = register load N (placed s.nodes s.sets) T s.sets

-- the state with them
abbrev pub with_target : Load → ℕ → Nodes → ℕ → Nodes
with_target load N s T =
    record { sets = with_target_sets load N s T; nodes = s.nodes; counter = s.counter; marks = marks_for load N (ledger_of s) T s.marks }

-- the area that holds it
abbrev pub target_area : Load → ℕ → Nodes → ℕ → List ℕ → List ℕ
target_area load N s T l =
    cond (has T s.sets) l (registered N (length (put (next_place load N s) T s.sets)) (next_place load N s) T l)

pub stands-target : {load : Load} {N : ℕ} {s : Nodes} {l₀ l : List ℕ} → Stands load N s l₀ l → load.A < N → (T : ℕ) → T < 2 ^ 256
    → Stands load N (with_target load N s T) l₀ (target_area load N s T l)
unfolding marks_for
stands-target {load} {N} {s} {l₀} {l} v more T wide = go (has T s.sets) refl
  where
    go : (t : Bool) → has T s.sets ≡ t → Stands load N (with_target load N s T) l₀ (target_area load N s T l)
    go true h = rw (register-old load N (placed s.nodes s.sets) T s.sets h, h) v
    go false h =
        let f = place-free load N (placed s.nodes s.sets) s.sets (placing_apart v.placing) v.few more in
        rw (register-new load N (placed s.nodes s.sets) T s.sets h, h)
        (stands-registered v (next_place load N s) T h f.within f.room (free_node v.placing N (next_place load N s) f) wide)

-- the marks after the walk from node y, with atom a there
abbrev pub walk_marks : Load → ℕ → Nodes → ℕ → ℕ → List ℕ
walk_marks load N s a y = marked (node_edge load (set s.nodes a y) s.sets) N (next s.counter) y (with_raised s).marks

-- the state after the test of step 3: the walk is made where the graph had no cycle
abbrev pub with_test : Load → ℕ → Nodes → ℕ → ℕ → Bool → Nodes
with_test load N s a y cyc =
    record { sets = s.sets; nodes = s.nodes; counter = cond cyc s.counter (next s.counter); marks = cond cyc s.marks (walk_marks load N s a y) }

-- how many edges come and go where atom a goes to node y, and how many nodes y then reaches, by the slots
abbrev pub slot_report : Load → ℕ → List ℕ → List ℕ → ℕ → ℕ → Report
slot_report load N nodes sets a y =
    let s = sources load nodes sets in
    let t = targets load nodes sets in
    let u = sources load (set nodes a y) sets in
    let v = targets load (set nodes a y) sets in
    record {
      appeared = fresh N s t u v (load.D + load.E);
      vanished = fresh N u v s t (load.D + load.E);
      reached = count (via (node_edge load (set nodes a y) sets) (below N) y) N;
    }

-- atom a goes to the set T, which has the node y once it is registered
pub record Trial (load : Load) (N : ℕ) (s : Nodes) (a T y : ℕ) : Type 0 where
  pub order : InOrder load
  pub placing : Placing load s.nodes s.sets
  pub small : N ≤ 1024
  pub few : length s.sets ≤ N
  pub more : load.A < N
  pub atom : a < load.A
  pub node : y < length (with_target_sets load N s T)
  pub set : at (with_target_sets load N s T) y ≡ T

module _ {load : Load} {N : ℕ} {s : Nodes} {a T y : ℕ} (v : Trial load N s a T y) where
  abbrev pub place : List ℕ
  place = placed s.nodes s.sets

  abbrev pub sets' : List ℕ
  sets' = with_target_sets load N s T

  pub wide : length sets' ≤ N
  wide = (evict_laws.registered load N place s.sets (placing_apart v.placing) v.few v.more T).few

  module _ (fixed w : List ℕ) (is : value w ≡ T) (r24 : stays fixed a ≡ false) (r11 : legal load.E w ≡ true) (r12 : eqb T (at place a) ≡ false) (s1 : step1 load place a ≡ false) where
    pub passed : Passed (leb load.A a) (stays fixed a) (not (legal load.E w)) (eqb (value w) (at place a))
    passed = record { at10 = lt-leb load.A a v.atom; at24 = r24; at11 = ap not r11; at12 = rw is r12 }

-- a move that step 1 rejects writes nothing
module _ (load : Load) (fixed : List ℕ) (N : ℕ) (st : State) (a : ℕ) (w : List ℕ) (r10 : a < load.A) (r24 : stays fixed a ≡ false) (r11 : legal load.E w ≡ true) (r12 : eqb (value w) (at st.ledger.place a) ≡ false) where
  pub early_rejected : step1 load st.ledger.place a ≡ true → ((move load fixed N st.ledger a w).answer ≡ rejected) × (after load fixed N st a w ≡ st)
  unfolding move after
  early_rejected s1 =
      let passed : Passed (leb load.A a) (stays fixed a) (not (legal load.E w)) (eqb (value w) (at st.ledger.place a)) = record { at10 = lt-leb load.A a r10; at24 = r24; at11 = ap not r11; at12 = r12 } in
      (decide-late load fixed st.ledger.place a w passed ∙ rw s1 refl, rw (decide_unrefused load fixed st.ledger.place a w passed, s1) refl)
