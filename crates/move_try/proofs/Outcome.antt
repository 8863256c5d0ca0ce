-- Theorems on the definitions of specs/Outcome: they stand here, so that the crate can be read with a definition changed. Assumes nothing.
use Rattle.std.specs.Prelude.{◌≡◌, Bool, ◌&&◌, List, ℕ, ◌<◌, eqb, ltb, length, get_or, set, replicate}
use Rattle.std.proofs.Math.Path.{refl, ap, ap₂}
use Rattle.std.proofs.Common.{sym, ◌∙◌, arith}
use Rattle.std.proofs.Math.Bool.{true, false, cond}
use Rattle.std.proofs.Math.Decide.{dec_lt}
use Rattle.std.proofs.lemmas.List.{length-replicate, get_or-replicate}
use borrow.Author.Tests.{lt-ltb, le-ltb}
use Rattle.graphs.specs.Bools.{fails}
use Rattle.graphs.specs.Lists.{below}
use Rattle.graphs.specs.Tab.{tab, tab_alike}
use Rattle.graphs.specs.Walk.{via, cyclic}
use Rattle.graphs.specs.Walks.{sound, walk_to}
use Rattle.graph_walks.specs.Marks.{marking}
use Rattle.entry_set.specs.Sets.{value, legal}
use Rattle.move_ledger.specs.Graph.{Load, at, edge, gained, reach}
use Rattle.move_ledger.specs.Answer.{Report, accepted, rejected, is_refused, is_accepted}
use Rattle.move_ledger.specs.Ledger.{step1, step2, step3, stays, report, decide, move}
use Rattle.move_ledger.specs.MoveLaws.{tried-after}
use Rattle.move_ledger.proofs.MoveLaws.{decide-late, decide_unrefused}
use Rattle.move_ledger.proofs.Gained.{gained_cells}
use Rattle.move_ledger.proofs.Reach.{reach-nodes}
use Rattle.move_ledger.specs.Nodes.{placed, Placing, node_edge}
use Rattle.move_ledger.specs.NodeWalks.{edge-inside}
use Rattle.move_ledger.proofs.NodeWalks.{cyclic-nodes}
use Rattle.move_ledger.specs.NodePlaces.{Kept}
use Rattle.move_ledger.proofs.NodePlaces.{register-kept}
use Rattle.move_ledger.specs.NodeMoves.{placing_set, placed-moved}
use Rattle.move_ledger.proofs.NodeMoves.{moved-cyclic, moved_reaches}
use Rattle.move_area.specs.Calls.{last, next, marks_for, walked, after}
use Rattle.move_area.specs.NodeBodies.{Nodes, state_of}
use Rattle.move_try.specs.Changes.{with_node}
use Rattle.move_try.specs.Outcome.{ledger_of, with_target, walk_marks, with_test, slot_report, Trial, place, sets', wide, passed}
use Rattle.move_try.specs.Outcome as outcome_here

module _ {load : Load} {N : ℕ} {s : Nodes} {a T y : ℕ} (v : Trial load N s a T y) where
  abbrev m : List ℕ
  m = marks_for load N (ledger_of s) T s.marks

  abbrev E : ℕ → ℕ → Bool
  E = node_edge load (set s.nodes a y) (outcome_here.sets' v)

  kept : Kept load N s.nodes s.sets (outcome_here.sets' v)
  kept = register-kept v.placing v.few v.more (omega (arith, v.small)) T

  reached : (x : ℕ) → (ltb x (length (outcome_here.sets' v)) && via (edge load (set (outcome_here.place v) a T)) (set (outcome_here.place v) a T) T (at (outcome_here.sets' v) x)) ≡ via E (below N) y x
  reached x = go (dec_lt x (length (outcome_here.sets' v)))
    where
      go : Dec (x < length (outcome_here.sets' v)) → (ltb x (length (outcome_here.sets' v)) && via (edge load (set (outcome_here.place v) a T)) (set (outcome_here.place v) a T) T (at (outcome_here.sets' v) x)) ≡ via E (below N) y x
      go (yes h) = rw (lt-ltb x (length (outcome_here.sets' v)) h) (moved_reaches v.order kept.placing kept.placed a T y v.node v.set N (outcome_here.wide v) x h)
      go (no h) =
          rw (le-ltb x (length (outcome_here.sets' v)) (omega arith))
          (sym (fails _ (λ q. h (walk_to (λ i j k. (edge-inside v.order (placing_set kept.placing a y v.node) i j k).1) (sound E (below N) y x q)))))

  -- the marks by nodes are those by sets
  walked-nodes : walked load (step3 load N (ledger_of s) a T) T s.counter m ≡ walk_marks load N (with_target load N s T) a y
  unfolding walked marking
  walked-nodes = go (last s.counter)
    where
      go : (t : Bool) → tab (λ x. cond (ltb x (length (outcome_here.sets' v)) && via (edge load (set (outcome_here.place v) a T)) (set (outcome_here.place v) a T) T (at (outcome_here.sets' v) x)) (next s.counter) (cond t 0 (at m x))) (length m)
          ≡ tab (λ x. cond (via E (below N) y x) (next s.counter) (get_or (cond t (replicate (length m) 0) m) x 0)) (length (cond t (replicate (length m) 0) m))
      go true =
          rw (length-replicate {A = ℕ} (length m) 0)
          (tab_alike _ _ (length m) (λ x h. ap₂ (λ c k. cond c (next s.counter) k) (reached x) (sym (get_or-replicate {A = ℕ} (length m) x 0 0 h))))
      go false = tab_alike _ _ (length m) (λ x h. ap (λ c. cond c (next s.counter) (at m x)) (reached x))

  -- the graph before
  before : cyclic (node_edge load s.nodes s.sets) (below N) ≡ cyclic (edge load (outcome_here.place v)) (outcome_here.place v)
  before = cyclic-nodes v.order v.placing N v.few

  -- step 3's test
  test-cyclic : cyclic (edge load (set (outcome_here.place v) a T)) (set (outcome_here.place v) a T) ≡ cyclic E (below N)
  test-cyclic = moved-cyclic v.order kept.placing kept.placed a T y v.node v.set N (outcome_here.wide v)

  moved : placed (set s.nodes a y) (outcome_here.sets' v) ≡ set (outcome_here.place v) a T
  moved = placed-moved v.order kept.placing kept.placed a T y v.node v.set N (outcome_here.wide v)

  -- the numbers by slots are those by sets, where the moved graph has no cycle
  told : cyclic E (below N) ≡ false → slot_report load N s.nodes (outcome_here.sets' v) a y ≡ report load (outcome_here.place v) (set (outcome_here.place v) a T) T
  told acyclic =
      rw (
        sym (gained_cells v.order kept.placing there N (outcome_here.wide v) some) ∙ ap₂ (gained load) kept.placed moved,
        sym (gained_cells v.order there kept.placing N (outcome_here.wide v) some) ∙ ap₂ (gained load) moved kept.placed,
        sym (reach-nodes v.order there N (outcome_here.wide v) y v.node (sym (cyclic-nodes v.order there N (outcome_here.wide v)) ∙ acyclic)) ∙ ap₂ (reach load) moved v.set,
      ) refl
    where
      there : Placing load (set s.nodes a y) (outcome_here.sets' v)
      there = placing_set kept.placing a y v.node

      some : 0 < N
      some = omega (arith, v.more)

  abbrev R : Report
  R = slot_report load N s.nodes (outcome_here.sets' v) a y

  module _ (fixed w : List ℕ) (is : value w ≡ T) (r24 : stays fixed a ≡ false) (r11 : legal load.E w ≡ true) (r12 : eqb T (at (outcome_here.place v) a) ≡ false) (s1 : step1 load (outcome_here.place v) a ≡ false) where
    decided : decide load fixed (outcome_here.place v) a w ≡ cond (cyclic E (below N)) rejected (accepted R)
    decided = decide-late load fixed (outcome_here.place v) a w (outcome_here.passed v fixed w is r24 r11 r12 s1) ∙ rw (s1, is, test-cyclic) (go (cyclic E (below N)) refl)
      where
        go : (t : Bool) → cyclic E (below N) ≡ t → cond t rejected (accepted (report load (outcome_here.place v) (set (outcome_here.place v) a T) T)) ≡ cond t rejected (accepted R)
        go true h = refl
        go false h = ap accepted (sym (told h))

    unrefused : is_refused (decide load fixed (outcome_here.place v) a w) ≡ false
    unrefused = decide_unrefused load fixed (outcome_here.place v) a w (outcome_here.passed v fixed w is r24 r11 r12 s1)

    late : (move load fixed N (ledger_of s) a w).after ≡ cond (is_accepted (cond (cyclic E (below N)) rejected (accepted R))) (step3 load N (ledger_of s) a T) (step2 load N (ledger_of s) T)
    late =
        tried-after load fixed N (ledger_of s) a w unrefused s1
        ∙ ap₂ (λ x X. cond (is_accepted x) (step3 load N (ledger_of s) a X) (step2 load N (ledger_of s) X)) decided is

    by-sets : after load fixed N (state_of s) a w
        ≡ record {
          ledger = (move load fixed N (ledger_of s) a w).after;
          counter = cond (cyclic (node_edge load s.nodes s.sets) (below N)) s.counter (next s.counter);
          marks = cond (cyclic (node_edge load s.nodes s.sets) (below N)) m (walk_marks load N (with_target load N s T) a y);
        }
    unfolding after
    by-sets = rw (unrefused, s1, is, before, walked-nodes) refl

    -- rejected: the target is registered
    pub trial_rejected : cyclic E (below N) ≡ true
        → ((move load fixed N (ledger_of s) a w).answer ≡ rejected) × (after load fixed N (state_of s) a w ≡ state_of (with_test load N (with_target load N s T) a y (cyclic (node_edge load s.nodes s.sets) (below N))))
    unfolding move
    trial_rejected q = (decided ∙ rw q refl, by-sets ∙ rw (late, q, kept.placed) refl)

    -- accepted: and the atom moved
    pub trial_accepted : cyclic E (below N) ≡ false
        → ((move load fixed N (ledger_of s) a w).answer ≡ accepted R) × (after load fixed N (state_of s) a w ≡ state_of (with_node (with_test load N (with_target load N s T) a y (cyclic (node_edge load s.nodes s.sets) (below N))) a y))
    unfolding move
    trial_accepted q = (decided ∙ rw q refl, by-sets ∙ rw (late, q, moved) refl)
