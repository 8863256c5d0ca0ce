-- From the ledger to the areas that the calls are lent: what the contracts equate the code with. Assumes nothing.
use Rattle.std.specs.Prelude.{ℕ, ◌+◌, ◌*◌, ◌<◌, ◌≡◌, refl, true, List, length, get_or}
use Rattle.std.proofs.Common.{arith, sym, ap, ◌∙◌, lt-ltb}
use Rattle.graphs.specs.Bools.{and_left, and_right}
use Rattle.graphs.specs.Square.{index_lt, index_div, index_mod}
use Rattle.graphs.specs.Tab.{tab-at}
use Rattle.layout.specs.Patch.{part, part_at}
use Rattle.move_ledger.specs.Graph.{Load, at, members, mult, rising, edges}
use Rattle.move_ledger.specs.Ledger.{Ledger, move, try_move, call}
use Rattle.move_ledger.specs.Loading.{refusal}
use Rattle.move_ledger.proofs.LoadLaws.{refusal-none}
use Rattle.move_area.specs.Bodies.{lane_at}
use Rattle.move_area.specs.BodyLaws.{read-edges, read-counts, read-occupied, read-distinct}
use Rattle.move_area.specs.Area.{State, bodies, encode, decode, consistent}
use Rattle.move_area.specs.Held.{bodies-sized, consistent-held, consistent-whole}
use Rattle.move_area.specs.ListLaws.{alike_one}
use Rattle.move_area.specs.Fixed.{flagged, checks_out}
use Rattle.move_area.specs.Calls as on-area
use Rattle.move_area.specs.History.{Holding, holding_decode, holding_checks, call_area, call_step}

-- an area that no row from 1 to 9 turns back holds the ledger that is read from it
pub holding : (load : Load) (fixed : List ℕ) (N : ℕ) (area : List ℕ) → refusal load fixed N (length area) ≡ 0 → checks_out load fixed N area ≡ true → Holding load fixed N area (decode load N area)
unfolding flagged
holding load fixed N area q c =
    let l = refusal-none load fixed N (length area) q in
    let u = and_left (consistent load N area) _ c in
    record {
      legal = q;
      room = omega (arith, l.sizes.area);
      bits = l.sizes.bits;
      held = consistent-held load N area u;
      whole = consistent-whole load N area u;
      kept = alike_one _ _ (and_right (consistent load N area) _ c);
    }

-- counts and edges equal those worked out afresh
pub record Fresh (load : Load) (fixed : List ℕ) (N : ℕ) (l : Ledger) (area : List ℕ) : Type 0 where
  pub count_at : (x : ℕ) → x < length l.registered → get_or area (lane_at N 8 + x) 0 ≡ members load l.place (at l.registered x)
  pub edge_at : (x y : ℕ) → x < length l.registered → y < length l.registered
      → get_or area (x * N + y) 0 ≡ mult load l.place (at l.registered x) (at l.registered y)
  -- the number of occupied sets and that of distinct edges stand in the area, true after loading and every move, rejected ones included
  pub occupied-at : get_or area (N * N + 3) 0 ≡ length (rising l.place)
  pub distinct_at : get_or area (N * N + 4) 0 ≡ length (edges load l.place)
  -- rows 1 to 9 can't fit within a list
  pub legal : refusal load fixed N (length area) ≡ 0
  pub checks : checks_out load fixed N area ≡ true

pub holding_fresh : {load : Load} {fixed : List ℕ} {N : ℕ} {area : List ℕ} {st : State} → Holding load fixed N area st → Fresh load fixed N st.ledger area
unfolding bodies encode
holding_fresh {load} {N} {area} {st} h =
    record {
      count_at = λ x b.
          let c : x < N = omega (arith, h.held.sound.room) in
          sym (part_at (lane_at N 8) N area x c) ∙ ap (λ (u : List ℕ). get_or (part (lane_at N 8) N u) x 0) (sym h.whole)
          ∙ ap (λ (u : List ℕ). get_or u x 0) (read-counts N load.A (bodies load N st) (bodies-sized h.held) area h.room)
          ∙ tab-at _ N x c ∙ rw (lt-ltb x (length st.ledger.registered) b) refl;
      edge_at = λ x y bx by.
          let cx : x < N = omega (arith, h.held.sound.room) in
          let cy : y < N = omega (arith, h.held.sound.room) in
          let i : x * N + y < N * N = index_lt N x y cx cy in
          ap (λ k. get_or area k 0) (sym (native.Mathlib.Nat.zero-add (x * N + y)))
          ∙ sym (part_at 0 (N * N) area (x * N + y) i) ∙ ap (λ (u : List ℕ). get_or (part 0 (N * N) u) (x * N + y) 0) (sym h.whole)
          ∙ ap (λ (u : List ℕ). get_or u (x * N + y) 0) (read-edges N load.A (bodies load N st) (bodies-sized h.held) area h.room)
          ∙ tab-at _ (N * N) (x * N + y) i
          ∙ rw (index_div N x y cy, index_mod N x y cy, lt-ltb x (length st.ledger.registered) bx, lt-ltb y (length st.ledger.registered) by) refl;
      occupied-at = ap (λ (u : List ℕ). get_or u (N * N + 3) 0) (sym h.whole) ∙ read-occupied N load.A (bodies load N st) (bodies-sized h.held) area h.room;
      distinct_at = ap (λ (u : List ℕ). get_or u (N * N + 4) 0) (sym h.whole) ∙ read-distinct N load.A (bodies load N st) (bodies-sized h.held) area h.room;
      legal = h.legal;
      checks = holding_checks h;
    }

-- a move on an area that holds a ledger answers as the ledger does, and so does the next one
pub step-answer : (load : Load) (fixed : List ℕ) (N : ℕ) (area : List ℕ) (a : ℕ) (s : List ℕ) → Holding load fixed N area (decode load N area)
    → (on-area.try_move load fixed N area a s).answer ≡ (move load fixed N (decode load N area).ledger a s).answer
unfolding call call_area
step-answer load fixed N area a s h = (call_step load fixed N area (decode load N area) (try_move a s) h).answers

-- and leaves an area that says what the ledger's next state does
pub step_after : (load : Load) (fixed : List ℕ) (N : ℕ) (area : List ℕ) (a : ℕ) (s : List ℕ) → Holding load fixed N area (decode load N area)
    → (decode load N (on-area.try_move load fixed N area a s).area).ledger ≡ (move load fixed N (decode load N area).ledger a s).after
unfolding call call_area
step_after load fixed N area a s h =
    let p = call_step load fixed N area (decode load N area) (try_move a s) h in ap (λ (u : State). u.ledger) (holding_decode p.holds) ∙ p.follows

-- with the counts, edges and totals of that state, and no row from 1 to 9 that turns it back
pub step-fresh : (load : Load) (fixed : List ℕ) (N : ℕ) (area : List ℕ) (a : ℕ) (s : List ℕ) → Holding load fixed N area (decode load N area)
    → Fresh load fixed N (decode load N (on-area.try_move load fixed N area a s).area).ledger (on-area.try_move load fixed N area a s).area
unfolding call_area
step-fresh load fixed N area a s h = let p = call_step load fixed N area (decode load N area) (try_move a s) h in rw (holding_decode p.holds) (holding_fresh p.holds)

pub after-step : (load : Load) (fixed : List ℕ) (N : ℕ) (area : List ℕ) (a : ℕ) (s : List ℕ) (b : ℕ) (t : List ℕ) → Holding load fixed N area (decode load N area)
    → (on-area.try_move load fixed N (on-area.try_move load fixed N area a s).area b t).answer ≡ (move load fixed N (move load fixed N (decode load N area).ledger a s).after b t).answer
unfolding call call_area
after-step load fixed N area a s b t h =
    let p = call_step load fixed N area (decode load N area) (try_move a s) h in
    (call_step load fixed N (on-area.try_move load fixed N area a s).area p.next (try_move b t) p.holds).answers
    ∙ ap (λ (l : Ledger). (move load fixed N l b t).answer) p.follows
