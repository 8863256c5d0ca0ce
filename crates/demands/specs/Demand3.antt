-- Demand 3 of the move graph: answers of lists of calls, fresh counts and edges, the same placement, either order. Assumes nothing.
use Rattle.std.specs.Prelude.{ℕ, ◌≡◌, refl, Bool, true, false, cond, List, eqb, length, set}
use Rattle.std.proofs.Common.{sym, ap, subst, ◌∙◌, get_or-set_other}
use Rattle.std.proofs.lemmas.List.{set_comm}
use Rattle.graphs.specs.Walk.{cyclic}
use Rattle.entry_set.specs.Sets.{value}
use Rattle.move_ledger.specs.Graph.{Load, at, edge}
use Rattle.move_ledger.specs.Answer.{Report, zeros, Answer, accepted, rejected, is_refused, is_accepted, plain}
use Rattle.move_ledger.specs.Ledger.{Ledger, report, decide, move, Call, call, loaded, answers}
use Rattle.move_ledger.proofs.MoveLaws.{decide_accepted, decide-late, place_after}
use Rattle.move_ledger.specs.Loading.{refusal, entry_sets}
use Rattle.move_area.specs.Area.{decode}
use Rattle.move_area.specs.Fixed.{checks_out}
use Rattle.move_area.specs.Calls.{first, new}
use Rattle.move_area.specs.Calls as on-area
use Rattle.move_area.specs.History.{Holding, call_area, area_answers, area_after, call_step, loading-holds, run}
use Rattle.demands.specs.History.{history}
use Rattle.demands.specs.Areas.{holding, Fresh, holding_fresh, step-answer, after-step}

-- what a call answers
abbrev pub reply : Load → List ℕ → ℕ → Ledger → Call → Answer
reply load fixed N l c = (call load fixed N l c).answer

-- the numbers left out
left_out : (t : Bool) (r : Report) → plain (cond t rejected (accepted r)) ≡ cond t rejected (accepted zeros)
left_out true r = refl
left_out false r = refl

-- the answer to the second of two moves that would each be accepted
second_answer : (load : Load) (fixed place : List ℕ) (a b : ℕ) (s t : List ℕ) → (b ≡ a → ⊥) → is_accepted (decide load fixed place a s) ≡ true → is_accepted (decide load fixed place b t) ≡ true
    → let both = set (set place a (value s)) b (value t) in
    plain (decide load fixed (set place a (value s)) b t) ≡ cond (cyclic (edge load both) both) rejected (accepted zeros)
second_answer load fixed place a b s t d g h =
    let x = decide_accepted load fixed place a s g in
    let y = (decide_accepted load fixed place b t h).passed in
    let same : eqb (value t) (at (set place a (value s)) b) ≡ false = ap (eqb (value t)) (get_or-set_other place a b (value s) 0 d) ∙ y.at12 in
    let both = set (set place a (value s)) b (value t) in
    ap plain (decide-late load fixed (set place a (value s)) b t (record { at10 = y.at10; at24 = y.at24; at11 = y.at11; at12 = same }))
    ∙ rw x.no_cycle (left_out (cyclic (edge load both) both) (report load (set place a (value s)) both (value t)))

-- if two moves on different atoms would each be accepted next, the second gets the same answer in either order; the numbers that a move reports are left
-- out, where two orders of moves are compared
pub either_order : (load : Load) (fixed : List ℕ) (N : ℕ) (l : Ledger) (a b : ℕ) (s t : List ℕ) → (a ≡ b → ⊥)
    → is_accepted (move load fixed N l a s).answer ≡ true → is_accepted (move load fixed N l b t).answer ≡ true
    → plain (move load fixed N (move load fixed N l a s).after b t).answer ≡ plain (move load fixed N (move load fixed N l b t).after a s).answer
unfolding move
either_order load fixed N l a b s t d g h =
    first a s b t g ∙ second_answer load fixed l.place a b s t (λ z. d (sym z)) g h
    ∙ ap (λ p. cond (cyclic (edge load p) p) rejected (accepted zeros)) (set_comm l.place a b (value s) (value t) d)
    ∙ sym (first b t a s h ∙ second_answer load fixed l.place b a t s d h g)
  where
    first : (a : ℕ) (s : List ℕ) (b : ℕ) (t : List ℕ) → is_accepted (decide load fixed l.place a s) ≡ true
        → plain (decide load fixed (move load fixed N l a s).after.place b t) ≡ plain (decide load fixed (set l.place a (value s)) b t)
    first a s b t g = ap (λ p. plain (decide load fixed p b t)) (place_after load fixed N l a s ∙ rw g refl)

-- On the areas that the calls are lent: for every list of moves and questions after a loading, refused ones included, every answer is the one that a
-- plain ledger of the calls gives
pub history-answers : (load : Load) (fixed : List ℕ) (N : ℕ) (sets area : List ℕ) (calls : List Call) → is_refused (new load fixed N sets area).answer ≡ false
    → area_answers load fixed N (new load fixed N sets area).area calls ≡ answers load fixed N (loaded (entry_sets load sets)) calls
history-answers load fixed N sets area calls h =
    (run load fixed N (new load fixed N sets area).area (first load N sets) calls (loading-holds load fixed N sets area h)).answers_alike

-- and counts and edges equal those worked out afresh, the two kept totals with them: after every list, and so after every call of one
pub history-fresh : (load : Load) (fixed : List ℕ) (N : ℕ) (sets area : List ℕ) (calls : List Call) → is_refused (new load fixed N sets area).answer ≡ false
    → Fresh load fixed N (history load fixed N sets calls) (area_after load fixed N (new load fixed N sets area).area calls)
history-fresh load fixed N sets area calls h =
    let r = run load fixed N (new load fixed N sets area).area (first load N sets) calls (loading-holds load fixed N sets area h) in
    subst (λ l. Fresh load fixed N l (area_after load fixed N (new load fixed N sets area).area calls)) r.ends (holding_fresh r.holds)

-- the answer to the next call after a list
pub next-answer : (load : Load) (fixed : List ℕ) (N : ℕ) (sets area : List ℕ) (calls : List Call) (next : Call) → is_refused (new load fixed N sets area).answer ≡ false
    → (call_area load fixed N (area_after load fixed N (new load fixed N sets area).area calls) next).answer ≡ reply load fixed N (history load fixed N sets calls) next
next-answer load fixed N sets area calls next h =
    let r = run load fixed N (new load fixed N sets area).area (first load N sets) calls (loading-holds load fixed N sets area h) in
    (call_step load fixed N (area_after load fixed N (new load fixed N sets area).area calls) r.last next r.holds).answers ∙ ap (λ (l : Ledger). reply load fixed N l next) r.ends

-- from any consistent area, if two moves on different atoms would each be accepted next, the second gets the same answer in either order
pub either_order_on_areas : (load : Load) (fixed : List ℕ) (N : ℕ) (area : List ℕ) (a b : ℕ) (s t : List ℕ) → refusal load fixed N (length area) ≡ 0 → checks_out load fixed N area ≡ true → (a ≡ b → ⊥)
    → is_accepted (on-area.try_move load fixed N area a s).answer ≡ true → is_accepted (on-area.try_move load fixed N area b t).answer ≡ true
    → plain (on-area.try_move load fixed N (on-area.try_move load fixed N area a s).area b t).answer ≡ plain (on-area.try_move load fixed N (on-area.try_move load fixed N area b t).area a s).answer
unfolding call
either_order_on_areas load fixed N area a b s t q c d g h =
    ap plain (second a b s t) ∙ either_order load fixed N l a b s t d (first a s g) (first b t h) ∙ sym (ap plain (second b a t s))
  where
    l : Ledger
    l = (decode load N area).ledger

    w : Holding load fixed N area (decode load N area)
    w = holding load fixed N area q c

    first : (a : ℕ) (s : List ℕ) → is_accepted (on-area.try_move load fixed N area a s).answer ≡ true → is_accepted (move load fixed N (decode load N area).ledger a s).answer ≡ true
    first a s g = subst (λ x. is_accepted x ≡ true) (step-answer load fixed N area a s w) g

    second : (a b : ℕ) (s t : List ℕ) → (on-area.try_move load fixed N (on-area.try_move load fixed N area a s).area b t).answer ≡ (move load fixed N (move load fixed N (decode load N area).ledger a s).after b t).answer
    second a b s t = after-step load fixed N area a s b t w
