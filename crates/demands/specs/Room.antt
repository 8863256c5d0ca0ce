-- A place for the next set is always left, so 13 never occurs. Assumes nothing.
use Rattle.std.specs.Prelude.{ℕ, zero, suc, ◌<◌, ◌≡◌, refl, Bool, true, false, not, cond, ◌&&◌, ◌||◌, List, [], ◌∷◌, leb, eqb, length, set}
use Rattle.std.proofs.Common.{arith, sym, ap, subst, ◌∙◌, true≢false}
use Rattle.graphs.specs.Lists.{has-at}
use Rattle.graphs.specs.Walk.{cyclic}
use Rattle.entry_set.specs.Sets.{value, legal, words}
use Rattle.move_ledger.specs.Graph.{Load, Edge, at, members, mult, edge, edges}
use Rattle.move_ledger.specs.Answer.{Answer, refused, acyclic, accepted, rejected, is_refused}
use Rattle.move_ledger.specs.Answer as answer
use Rattle.move_ledger.specs.Ledger.{Ledger, smallest_empty, free_place, step1, stays, report, decide, move, Question, atom_set, atom_count, multiplicity, edge_count, chunk_count, edge_at, has_cycle, kth, ask, Call, try_move, asks}
use Rattle.move_ledger.specs.Loading.{row1, row2, row3, row4, row5, row6, first_row, marks_fit, refusal, entry_sets, sets_fit, row7, row8, loading_row, loading}
use Rattle.move_ledger.specs.Evict.{Smallest, smallest, some_empty, Free, place-free}
use Rattle.move_ledger.specs.Sound.{Sound}
use Rattle.move_area.specs.Area.{decode}
use Rattle.move_area.specs.Fixed.{checks_out}
use Rattle.move_area.specs.Calls.{first, new, checked, asked}
use Rattle.move_area.specs.Calls as on-area
use Rattle.move_area.specs.History.{call_area, holding_wide, loading-holds, run}
use Rattle.demands.specs.History.{history}

-- when N sets are registered and another is needed, the smallest empty one, as a number, gives up its place
pub record Room (load : Load) (N : ℕ) (l : Ledger) : Type 0 where
  -- the next set has a place below N, and no atom's set gives it up
  pub free : Free load N l.place l.registered (free_place load N l.place l.registered)
  -- where all are taken, it is that of a registered set that is empty, none that is empty being smaller
  pub taken : length l.registered ≡ N → Smallest load l.place l.registered (smallest_empty load l.place l.registered)

-- after every loading and list of calls
pub room_always : (load : Load) (fixed : List ℕ) (N : ℕ) (sets area : List ℕ) (calls : List Call) → is_refused (new load fixed N sets area).answer ≡ false
    → Room load N (history load fixed N sets calls)
room_always load fixed N sets area calls h =
    let r = run load fixed N (new load fixed N sets area).area (first load N sets) calls (loading-holds load fixed N sets area h) in
    subst (Room load N) r.ends (go r.last.ledger r.holds.held.sound (holding_wide r.holds))
  where
    go : (l : Ledger) → Sound load N l → load.A < N → Room load N l
    go l v more =
        record {
          free = place-free load N l.place l.registered v.distinct v.room more;
          taken = λ e.
              let y = some_empty l.registered v.distinct load l.place (omega arith) in
              smallest load l.place l.registered (at l.registered y.0) (has-at l.registered y.0 y.1) y.2;
        }

-- the row that a refusal names, 0 of another answer
abbrev row_of : Answer → ℕ
row_of (refused n) = n
row_of acyclic = 0
row_of answer.cyclic = 0
row_of (accepted r) = 0
row_of rejected = 0
row_of (answer.set s) = 0
row_of (answer.number n) = 0
row_of (answer.edge e) = 0
row_of answer.none = 0

-- another row than 13
abbrev other : ℕ → Type 0
other n = eqb n 13 ≡ false

-- a choice between two answers, or two rows
choice : {A : Type 0} (row : A → ℕ) (b : Bool) (x y : A) → other (row x) → other (row y) → other (row (cond b x y))
choice row true x y h k = h
choice row false x y h k = k

kth-rows : (es : List Edge) (k : ℕ) → other (row_of (kth es k))
unfolding kth
kth-rows [] k = refl
kth-rows (e ∷ es) zero = refl
kth-rows (e ∷ es) (suc k) = kth-rows es k

move-rows : (load : Load) (fixed place : List ℕ) (a : ℕ) (s : List ℕ) → other (row_of (decide load fixed place a s))
unfolding decide
move-rows load fixed place a s =
    choice row_of (leb load.A a) (refused 10) _ refl
    (choice row_of (stays fixed a) (refused 24) _ refl
    (choice row_of (not (legal load.E s)) (refused 11) _ refl
    (choice row_of (eqb (value s) (at place a)) (refused 12) _ refl
    (choice row_of (step1 load place a || cyclic (edge load (set place a (value s))) (set place a (value s))) rejected (accepted (report load place (set place a (value s)) (value s))) refl refl))))

ask-rows : (load : Load) (place : List ℕ) (q : Question) → other (row_of (ask load place q))
unfolding ask
ask-rows load place (atom_set a) = choice row_of (leb load.A a) (refused 10) (answer.set (words 4 (at place a))) refl refl
ask-rows load place (atom_count s) = choice row_of (legal load.E s) (answer.number (members load place (value s))) (refused 11) refl refl
ask-rows load place (multiplicity s t) =
    choice row_of (legal load.E s && legal load.E t) (answer.number (mult load place (value s) (value t))) (refused 11) refl refl
ask-rows load place edge_count = refl
ask-rows load place chunk_count = refl
ask-rows load place (edge_at k) = kth-rows (edges load place) k
ask-rows load place has_cycle = choice row_of (cyclic (edge load place) place) answer.cyclic acyclic refl refl

first_rows : (load : Load) (N : ℕ) (lists : Bool) (size : ℕ) → other (first_row load N lists size)
unfolding first_row
first_rows load N lists size =
    choice (λ n. n) (row1 load N) 1 _ refl
    (choice (λ n. n) (row2 load || not lists) 2 _ refl
    (choice (λ n. n) (row3 load N size) 3 _ refl
    (choice (λ n. n) (row4 load) 4 _ refl (choice (λ n. n) (row5 load) 5 _ refl (choice (λ n. n) (row6 load) 6 0 refl refl)))))

checked-rows : (load : Load) (fixed : List ℕ) (N : ℕ) (area : List ℕ) (x : Answer) → other (row_of x) → other (row_of (checked load fixed N area x))
unfolding checked
checked-rows load fixed N area x h =
    choice row_of (eqb (refusal load fixed N (length area)) 0) (cond (checks_out load fixed N area) x (refused 9)) (refused (refusal load fixed N (length area)))
    (choice row_of (checks_out load fixed N area) x (refused 9) h refl) (first_rows load N (marks_fit load fixed) (length area))

-- row 13 never occurs: no call on any area answers it
pub never_13 : (load : Load) (fixed : List ℕ) (N : ℕ) (area : List ℕ) (c : Call) → (call_area load fixed N area c).answer ≡ refused 13 → ⊥
unfolding call_area on-area.try_move asked move
never_13 load fixed N area (try_move a s) h =
    let x = decide load fixed (decode load N area).ledger.place a s in
    let k : other (row_of (checked load fixed N area x)) = checked-rows load fixed N area x (move-rows load fixed (decode load N area).ledger.place a s) in
    true≢false (sym (ap (λ x. eqb (row_of x) 13) h) ∙ k)
never_13 load fixed N area (asks q) h =
    let x = ask load (decode load N area).ledger.place q in
    let k : other (row_of (checked load fixed N area x)) = checked-rows load fixed N area x (ask-rows load (decode load N area).ledger.place q) in
    true≢false (sym (ap (λ x. eqb (row_of x) 13) h) ∙ k)

-- nor does a loading
pub never_13_at-loading : (load : Load) (fixed : List ℕ) (N : ℕ) (sets area : List ℕ) → (new load fixed N sets area).answer ≡ refused 13 → ⊥
unfolding new loading loading_row
never_13_at-loading load fixed N sets area h =
    let q : ℕ = first_row load N (marks_fit load fixed && sets_fit load sets) (length area) in
    let late : ℕ = cond (row7 load sets) 7 (cond (row8 load sets) 8 0) in
    let place = entry_sets load sets in
    let k : other (row_of (new load fixed N sets area).answer) =
    choice row_of (eqb (cond (eqb q 0) late q) 0) (cond (cyclic (edge load place) place) answer.cyclic acyclic) (refused (cond (eqb q 0) late q))
    (choice row_of (cyclic (edge load place) place) answer.cyclic acyclic refl refl)
    (choice (λ n. n) (eqb q 0) late q
    (choice (λ n. n) (row7 load sets) 7 (cond (row8 load sets) 8 0) refl (choice (λ n. n) (row8 load sets) 8 0 refl refl))
    (first_rows load N (marks_fit load fixed && sets_fit load sets) (length area))) in
    true≢false (sym (ap (λ x. eqb (row_of x) 13) h) ∙ k)
