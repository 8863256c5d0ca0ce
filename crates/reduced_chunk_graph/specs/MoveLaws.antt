-- The rows 10, 24, 11 and 12 of a move, and what comes after them. Assumes nothing.
use Rattle.std.specs.Prelude.{ℕ, ◌+◌, ◌*◌, ◌≤◌, ◌<◌, ◌≡◌, Bool, true, false, not, List, eqb, length, get_or}
use native.Mathlib.Omega.{arith}
use Rattle.std.proofs.Math.Path.{refl, sym, ap}
use Rattle.std.proofs.Common.{◌∙◌}
use Rattle.std.proofs.Math.Bool.{cond}
use borrow.Author.Tests.{le-leb, lt-leb, eqb-true, eqb-false, eq-eqb, ne_eqb}
use Rattle.layout.specs.Patch.{part_at}
use Rattle.entry_set.specs.Sets.{value, legal}
use Rattle.entry_set.specs.SetLaws.{legal-below}
use Rattle.entry_set.specs.Lanes.{lanes}
use Rattle.move_ledger.specs.Graph.{Load, at}
use Rattle.move_ledger.specs.Answer.{Answer, refused, is_refused}
use Rattle.move_ledger.specs.Ledger.{decide, move}
use Rattle.move_ledger.proofs.LoadLaws.{refusal-none, refusal-marks}
use Rattle.move_ledger.specs.NodeLaws.{placed_at}
use Rattle.move_area.specs.Bodies.{lane_at, atom_at}
use Rattle.move_area.specs.Area.{State, encode, decode, sets_in}
use Rattle.move_area.specs.Held.{consistent-whole}
use Rattle.move_area.specs.Checked.{nodes_in, Ranged, consistent_ranged, ranged_placing, sets-at}
use Rattle.move_area.specs.Calls.{after}
use Rattle.move_area.specs.Calls as calls
use Rattle.move_rows.specs.Later.{later, turned-back, goes_on, later-legal, later-consistent}
use Rattle.move_questions.specs.Answers.{set_of, CanReadSet}
use Rattle.move_try.specs.Tried.{CanTry, Answers}
use Rattle.reduced_chunk_graph.specs.Moves.{CanGoOn, GoesOn}

-- a refused move leaves the state
refused_stays : (load : Load) (fixed : List ℕ) (N : ℕ) (st : State) (a : ℕ) (s : List ℕ) → is_refused (move load fixed N st.ledger a s).answer ≡ true → after load fixed N st a s ≡ st
unfolding after move
refused_stays load fixed N st a s h = rw h refl

module _ {load : Load} {fixed : List ℕ} {n : ℕ} {area : List ℕ} (can : CanGoOn load fixed n area) (atom : ℕ) (bits : List ℕ) where
  -- the rows
  pub goes_ten : load.A ≤ atom → GoesOn load fixed n area atom bits (refused 10) area
  unfolding move decide
  goes_ten h = record { answer = rw (le-leb load.A atom h) refl; area_after = refl }

  pub goes_fixed : atom < load.A → (at fixed atom ≡ 0 → ⊥) → GoesOn load fixed n area atom bits (refused 24) area
  unfolding move decide
  goes_fixed h f = record { answer = rw (lt-leb load.A atom h, ne_eqb (at fixed atom) 0 f) refl; area_after = refl }

  module _ (h : atom < load.A) (free : at fixed atom ≡ 0) where
    pub goes_eleven : legal load.E bits ≡ false → GoesOn load fixed n area atom bits (refused 11) area
    unfolding move decide
    goes_eleven q = record { answer = rw (lt-leb load.A atom h, free, q) refl; area_after = refl }

    pub goes_twelve : legal load.E bits ≡ true → eqb (value bits) (at (decode load n area).ledger.place atom) ≡ true → GoesOn load fixed n area atom bits (refused 12) area
    unfolding move decide
    goes_twelve q e = record { answer = rw (lt-leb load.A atom h, free, q, e) refl; area_after = refl }

  -- and the move
  pub goes-tried : (T : ℕ) (r : Answer) (l : List ℕ) → at fixed atom ≡ 0 → value bits ≡ T → legal load.E bits ≡ true → Answers load n area atom T r l → GoesOn load fixed n area atom bits r l
  goes-tried T r l free e q a =
      let z = a.of fixed bits (ap (λ k. not (eqb k 0)) free) e q in
      record { answer = z.0; area_after = go (is_refused r) refl z.0 z.1 }
    where
      go : (b : Bool) → is_refused r ≡ b → r ≡ (move load fixed n (decode load n area).ledger atom bits).answer → l ≡ encode load n (after load fixed n (decode load n area) atom bits) area
          → l ≡ cond b area (encode load n (after load fixed n (decode load n area) atom bits) area)
      go true b x y =
          y ∙ ap (λ (u : State). encode load n u area) (refused_stays load fixed n (decode load n area) atom bits (sym (ap is_refused x) ∙ b)) ∙ consistent-whole load n area can.sane
      go false b x y = y

  -- the atom's node and its set
  pub go_ranged : Ranged load n area
  go_ranged = let z = can.loadable.sizes in consistent_ranged load n area can.loadable.order z.sets (omega (arith, z.area)) can.sane

  pub go_node : atom < load.A → CanReadSet area n atom
  go_node h = record { room = omega (arith, can.loadable.sizes.area); node = omega (arith, go_ranged.nodes atom h, go_ranged.few) }

  pub go_set : atom < load.A → set_of area n atom ≡ at (decode load n area).ledger.place atom
  unfolding decode
  go_set h =
      let x = get_or area (n * n + 24 + 24 * n + atom) 0 in
      let p = ranged_placing can.loadable.sizes.sets go_ranged in
      let i : n * n + 24 + x ≡ lane_at n 0 + x = omega arith in
      ap (λ k. lanes area k n) i
      ∙ sym (sets-at n area x (omega (arith, go_ranged.nodes atom h)))
      ∙ ap (at (sets_in n area)) (sym (part_at (atom_at n) load.A area atom h))
      ∙ sym (placed_at (nodes_in load n area) (sets_in n area) atom (omega (arith, p.atoms)))

  -- row 12 and what the move asks, with the present set and the target by value
  module _ (here : atom < load.A) (free : at fixed atom ≡ 0) (ok : legal load.E bits ≡ true) {present target : ℕ} (there : present ≡ set_of area n atom) (is : target ≡ value bits) where
    pub twelve_fits : eqb present target ≡ true → GoesOn load fixed n area atom bits (refused 12) area
    twelve_fits h = goes_twelve here free ok (eq-eqb _ _ (sym is ∙ sym (eqb-true _ _ h) ∙ there ∙ go_set here))

    pub can_try : eqb present target ≡ false → CanTry load n area atom target
    can_try h =
        record {
          loadable = can.loadable;
          sane = can.sane;
          there = here;
          range = rw is (legal-below load.E bits ok);
          other = ne_eqb _ _ (λ e. eqb-false _ _ h (there ∙ go_set here ∙ sym e));
        }

    pub tried-goes : {r : Answer} {l : List ℕ} → Answers load n area atom target r l → GoesOn load fixed n area atom bits r l
    tried-goes {r} {l} a = goes-tried target r l free (sym is) ok a

-- the whole call
module _ (load : Load) (fixed : List ℕ) (n : ℕ) (area : List ℕ) (atom : ℕ) (bits : List ℕ) where
  pub call_refused : {q : ℕ} → q ≡ later load fixed n area → (q ≡ 0 → ⊥) → (refused q ≡ (calls.try_move load fixed n area atom bits).answer) × (area ≡ (calls.try_move load fixed n area atom bits).area)
  unfolding calls.try_move
  call_refused e h = rw (turned-back load fixed n area (λ z. h (e ∙ z)) (move load fixed n (decode load n area).ledger atom bits).answer) (ap refused e, refl)

  module _ (none : 0 ≡ later load fixed n area) where
    pub call_on : CanGoOn load fixed n area
    call_on =
        let legal = later-legal load fixed n area (sym none) in
        record {
          loadable = refusal-none load fixed n (length area) legal;
          marks = refusal-marks load fixed n (length area) legal;
          sane = later-consistent load fixed n area (sym none);
        }

    pub call-answer : {r : Answer} {l : List ℕ} → GoesOn load fixed n area atom bits r l → (r ≡ (calls.try_move load fixed n area atom bits).answer) × (l ≡ (calls.try_move load fixed n area atom bits).area)
    unfolding calls.try_move
    call-answer {r} {l} f =
        rw (goes_on load fixed n area (sym none) (move load fixed n (decode load n area).ledger atom bits).answer)
        (f.answer, f.area_after ∙ ap (λ (x : Answer). cond (is_refused x) area (encode load n (after load fixed n (decode load n area) atom bits) area)) f.answer)
