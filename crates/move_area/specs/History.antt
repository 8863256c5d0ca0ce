-- Lists of calls on an area: each is lent the area as the last one left it. Assumes nothing.
use Rattle.std.specs.Prelude.{◌≡◌, Bool, true, false, cond, List, [], ◌∷◌, ℕ, ◌+◌, ◌≤◌, ◌<◌, length}
use Rattle.std.proofs.Math.Path.{refl}
use Rattle.std.proofs.Common.{sym, ap, ap₂, subst, ◌∙◌, arith}
use Rattle.std.proofs.lemmas.List.{length-replicate, get_or-replicate}
use Rattle.graphs.specs.Bools.{and_both}
use Rattle.layout.specs.Patch.{part}
use Rattle.move_ledger.specs.Graph.{Load}
use Rattle.move_ledger.specs.Answer.{Answer, is_refused}
use Rattle.move_ledger.specs.Ledger.{Ledger, Call, try_move, asks, move, ask, call, answers, ledger}
use Rattle.move_ledger.specs.Loading.{refusal, loading_row}
use Rattle.move_ledger.specs.LoadLaws.{Sized, Loadable-sets, loading_unrefused}
use Rattle.move_ledger.proofs.LoadLaws.{refusal-none, loading_row-none, loading_row-later}
use Rattle.move_ledger.specs.MoveLaws.{refused_keeps}
use Rattle.move_ledger.specs.Sound.{loading_sound}
use Rattle.move_area.specs.Bodies.{atom_at}
use Rattle.move_area.specs.Area.{State, encode, decode, consistent}
use Rattle.move_area.specs.Held.{Held, decode-encode, encode_long, encode_again, encode-consistent}
use Rattle.move_area.specs.ListLaws.{one_alike}
use Rattle.move_area.specs.Fixed.{fixed_at, flags, flag, flagged, checks_out}
use Rattle.move_area.specs.FixedLaws.{encode-flags, flag-encode, flag_long, flag-flags}
use Rattle.move_area.specs.CallLaws.{after-ledger, after-held}
use Rattle.move_area.specs.Calls.{Called, first, new, checked, asked, after}
use Rattle.move_area.specs.Calls as calls

-- one call of a list
unfoldable pub call_area : Load → List ℕ → ℕ → List ℕ → Call → Called
call_area load fixed N area (try_move a s) = calls.try_move load fixed N area a s
call_area load fixed N area (asks q) = record { answer = asked load fixed N area q; area = area }

-- every answer of a list, and the area at its end
unfoldable pub area_answers : Load → List ℕ → ℕ → List ℕ → List Call → List Answer
area_answers load fixed N area [] = []
area_answers load fixed N area (c ∷ cs) = (call_area load fixed N area c).answer ∷ area_answers load fixed N (call_area load fixed N area c).area cs

unfoldable pub area_after : Load → List ℕ → ℕ → List ℕ → List Call → List ℕ
area_after load fixed N area [] = area
area_after load fixed N area (c ∷ cs) = area_after load fixed N (call_area load fixed N area c).area cs

-- an area holds a state, and no row from 1 to 6 fits
pub record Holding (load : Load) (fixed : List ℕ) (N : ℕ) (area : List ℕ) (st : State) : Type 0 where
  pub legal : refusal load fixed N (length area) ≡ 0
  pub room : atom_at N + load.A ≤ length area
  pub bits : load.E ≤ 256
  pub held : Held load N st
  pub whole : encode load N st area ≡ area
  -- each atom is kept as fixed or not
  pub kept : part (fixed_at N load.A) load.A area ≡ flags load fixed

module _ {load : Load} {fixed : List ℕ} {N : ℕ} {area : List ℕ} {st : State} (h : Holding load fixed N area st) where
  pub holding_decode : decode load N area ≡ st
  holding_decode = ap (decode load N) (sym h.whole) ∙ decode-encode load N st h.held area h.room h.bits

  -- so row 9 doesn't fit either
  pub holding_checks : checks_out load fixed N area ≡ true
  unfolding flagged
  holding_checks =
      and_both (consistent load N area) _ (subst (λ u. consistent load N u ≡ true) h.whole (encode-consistent load N st h.held area h.room h.bits))
      (one_alike _ _ h.kept)

  sizes : Sized load N (length area)
  sizes = (refusal-none load fixed N (length area) h.legal).sizes

  -- and there is a place for one more set than atoms
  pub holding_wide : load.A < N
  holding_wide = sizes.wide

  pub holding_checked : (x : Answer) → checked load fixed N area x ≡ x
  unfolding checked
  holding_checked x = rw (h.legal, holding_checks) refl

  encoded : (st' : State) → Held load N st' → Holding load fixed N (encode load N st' area) st'
  encoded st' v =
      record {
        legal = rw (encode_long load N st' v area h.room) h.legal;
        room = omega (arith, encode_long load N st' v area h.room, h.room);
        bits = h.bits;
        held = v;
        whole = encode_again load N st' v area h.room h.bits;
        kept = encode-flags load N st' v area (omega (arith, encode_long load N st' v area h.room, sizes.area)) ∙ h.kept;
      }

-- a call answers as the ledger does, and leaves an area that holds the ledger's next state
pub record Step (load : Load) (fixed : List ℕ) (N : ℕ) (st : State) (c : Call) (r : Called) : Type 0 where
  pub answers : r.answer ≡ (call load fixed N st.ledger c).answer
  pub next : State
  pub follows : next.ledger ≡ (call load fixed N st.ledger c).after
  pub holds : Holding load fixed N r.area next

pub call_step : (load : Load) (fixed : List ℕ) (N : ℕ) (area : List ℕ) (st : State) (c : Call) → Holding load fixed N area st → Step load fixed N st c (call_area load fixed N area c)
unfolding call_area call calls.try_move asked move
call_step load fixed N area st (asks q) h =
    record {
      answers = holding_checked h _ ∙ ap (λ (u : State). ask load u.ledger.place q) (holding_decode h);
      next = st;
      follows = refl;
      holds = h;
    }
call_step load fixed N area st (try_move a s) h = rw (holding_decode h, holding_checked h) (go (is_refused (move load fixed N st.ledger a s).answer) refl)
  where
    r : Answer
    r = (move load fixed N st.ledger a s).answer

    go : (t : Bool) → is_refused (move load fixed N st.ledger a s).answer ≡ t
        → Step load fixed N st (try_move a s) (record { answer = (move load fixed N st.ledger a s).answer; area = cond (is_refused (move load fixed N st.ledger a s).answer) area (encode load N (after load fixed N st a s) area) })
    go true q = rw q (record { answers = refl; next = st; follows = sym (refused_keeps load fixed N st.ledger a s q); holds = h })
    go false q =
        rw q
        (record {
          answers = refl;
          next = after load fixed N st a s;
          follows = after-ledger load fixed N st a s;
          holds = encoded h (after load fixed N st a s) (after-held load fixed N st a s (holding_wide h) h.held);
        })

-- an unrefused loading's area
pub loading-holds : (load : Load) (fixed : List ℕ) (N : ℕ) (sets area : List ℕ) → is_refused (new load fixed N sets area).answer ≡ false
    → Holding load fixed N (new load fixed N sets area).area (first load N sets)
unfolding new
loading-holds load fixed N sets area h =
    rw h
    (record {
      legal = rw long (loading_row-later load fixed N sets (length area) none);
      room = omega (arith, long, room);
      bits = l.loadable.sizes.bits;
      held = held;
      whole = flag-encode load N (first load N sets) held fixed first-area (encode_again load N (first load N sets) held area room l.loadable.sizes.bits);
      kept = flag-flags load fixed N first-area (omega (arith, first-long, l.loadable.sizes.area));
    })
  where
    none : loading_row load fixed N sets (length area) ≡ 0
    none = loading_unrefused load fixed N sets (length area) h

    l : Loadable-sets load N sets (length area)
    l = loading_row-none load fixed N sets (length area) none

    held : Held load N (first load N sets)
    held = record { sound = loading_sound l; long = length-replicate N 0; marks = λ x b. rw (get_or-replicate {A = ℕ} N x 0 0 b) (omega arith) }

    room : atom_at N + load.A ≤ length area
    room = omega (arith, l.loadable.sizes.area)

    first-area : List ℕ
    first-area = encode load N (first load N sets) area

    first-long : length (encode load N (first load N sets) area) ≡ length area
    first-long = encode_long load N (first load N sets) held area room

    long : length (flag load fixed N (encode load N (first load N sets) area)) ≡ length area
    long = flag_long load fixed N (encode load N (first load N sets) area) ∙ first-long

-- a whole list
pub record Run (load : Load) (fixed : List ℕ) (N : ℕ) (l : Ledger) (area : List ℕ) (cs : List Call) : Type 0 where
  pub answers_alike : area_answers load fixed N area cs ≡ answers load fixed N l cs
  pub last : State
  pub ends : last.ledger ≡ ledger load fixed N l cs
  pub holds : Holding load fixed N (area_after load fixed N area cs) last

pub run : (load : Load) (fixed : List ℕ) (N : ℕ) (area : List ℕ) (st : State) (cs : List Call) → Holding load fixed N area st → Run load fixed N st.ledger area cs
unfolding area_answers area_after answers ledger
run load fixed N area st [] h = record { answers_alike = refl; last = st; ends = refl; holds = h }
run load fixed N area st (c ∷ cs) h =
    let s = call_step load fixed N area st c h in
    let r = run load fixed N (call_area load fixed N area c).area s.next cs s.holds in
    record {
      answers_alike = ap₂ {A = Answer} {B = List Answer} ◌∷◌ s.answers (r.answers_alike ∙ ap (λ (l : Ledger). answers load fixed N l cs) s.follows);
      last = r.last;
      ends = r.ends ∙ ap (λ (l : Ledger). ledger load fixed N l cs) s.follows;
      holds = r.holds;
    }
