-- A call leaves an area that holds the ledger's next state. Assumes nothing.
use Rattle.std.specs.Prelude.{◌≡◌, Bool, cond, ◌&&◌, List, ℕ, ◌+◌, ◌≤◌, ◌<◌, ltb, length, set}
use Rattle.std.proofs.Math.Path.{refl}
use Rattle.std.proofs.Common.{◌∙◌, arith, length-set, get_or-set_same, get_or-set_other}
use Rattle.std.proofs.Math.Bool.{true, false}
use Rattle.std.proofs.Math.Decide.{ℕ_discrete}
use Rattle.graphs.specs.Lists.{has}
use Rattle.graphs.specs.Tab.{tab-length, tab-at}
use Rattle.graphs.specs.Walk.{via, cyclic}
use Rattle.entry_set.specs.Sets.{value}
use Rattle.move_ledger.specs.Graph.{Load, at, edge}
use Rattle.move_ledger.specs.Ledger.{Ledger, free_place, step3, tried, move, try_move, call}
use Rattle.move_ledger.proofs.Sound.{call_sound}
use Rattle.move_area.specs.Area.{State}
use Rattle.move_area.specs.Held.{Held}
use Rattle.move_area.specs.Calls.{last, next, marks_for, walked, after}

-- a mark isn't above the counter
abbrev Low : List ℕ → ℕ → ℕ → Type 0
Low marks counter N = (x : ℕ) → x < N → at marks x ≤ counter

pub marks-length : (load : Load) (N : ℕ) (l : Ledger) (T : ℕ) (marks : List ℕ) → length (marks_for load N l T marks) ≡ length marks
unfolding marks_for
marks-length load N l T marks = go (has T l.registered)
  where
    go : (t : Bool) → length (cond t marks (set marks (free_place load N l.place l.registered) 0)) ≡ length marks
    go true = refl
    go false = length-set marks (free_place load N l.place l.registered) 0

marks_low : (load : Load) (N : ℕ) (l : Ledger) (T : ℕ) (marks : List ℕ) (counter : ℕ) → length marks ≡ N → Low marks counter N → Low (marks_for load N l T marks) counter N
unfolding marks_for
marks_low load N l T marks counter e h = go (has T l.registered)
  where
    r : ℕ
    r = free_place load N l.place l.registered

    go : (t : Bool) → Low (cond t marks (set marks r 0)) counter N
    go true = h
    go false = λ x b. pick x b (ℕ_discrete x r)
      where
        pick : (x : ℕ) → x < N → Dec (x ≡ r) → at (set marks r 0) x ≤ counter
        pick x b (yes q) = rw (q, get_or-set_same marks r 0 0 (omega arith)) (omega arith)
        pick x b (no q) = rw (get_or-set_other marks r x 0 0 q) (h x b)

pub walked-length : (load : Load) (l : Ledger) (T counter : ℕ) (marks : List ℕ) → length (walked load l T counter marks) ≡ length marks
unfolding walked
walked-length load l T counter marks = tab-length _ (length marks)

walked_low : (load : Load) (l : Ledger) (T counter : ℕ) (marks : List ℕ) (N : ℕ) → length marks ≡ N → Low marks counter N → Low (walked load l T counter marks) (next counter) N
unfolding walked next
walked_low load l T counter marks N e h x b =
    rw (tab-at _ (length marks) x (omega arith)) (go (ltb x (length l.registered) && via (edge load l.place) l.place T (at l.registered x)) (last counter))
  where
    go : (t w : Bool) → cond t (cond w 1 (counter + 1)) (cond w 0 (at marks x)) ≤ cond w 1 (counter + 1)
    go true w = omega arith
    go false true = omega arith
    go false false = omega (arith, h x b)

module _ (load : Load) (fixed : List ℕ) (N : ℕ) (st : State) (a : ℕ) (s : List ℕ) where
  -- the ledger after a move is the ledger's own
  pub after-ledger : (after load fixed N st a s).ledger ≡ (move load fixed N st.ledger a s).after
  unfolding after move
  after-ledger = go (tried load fixed st.ledger.place a s) refl
    where
      go : (t : Bool) → tried load fixed st.ledger.place a s ≡ t → (after load fixed N st a s).ledger ≡ (move load fixed N st.ledger a s).after
      go true q = rw q refl
      go false q = rw q refl

  -- and the state is one that an area can hold
  pub after-held : load.A < N → Held load N st → Held load N (after load fixed N st a s)
  unfolding after call
  after-held more h = go (tried load fixed st.ledger.place a s) refl
    where
      l : Ledger
      l = st.ledger

      m : List ℕ
      m = marks_for load N st.ledger (value s) st.marks

      c : Bool
      c = cyclic (edge load st.ledger.place) st.ledger.place

      fit : length m ≡ N
      fit = marks-length load N st.ledger (value s) st.marks ∙ h.long

      low : Low m st.counter N
      low = marks_low load N st.ledger (value s) st.marks st.counter h.long h.marks

      long : (t : Bool) → length (cond t m (walked load (step3 load N st.ledger a (value s)) (value s) st.counter m)) ≡ N
      long true = fit
      long false = walked-length load _ _ _ m ∙ fit

      under : (t : Bool) → Low (cond t m (walked load (step3 load N st.ledger a (value s)) (value s) st.counter m)) (cond t st.counter (next st.counter)) N
      under true = low
      under false = walked_low load _ _ st.counter m N fit low

      go : (t : Bool) → tried load fixed st.ledger.place a s ≡ t → Held load N (after load fixed N st a s)
      go true q = rw q (record { sound = call_sound load fixed N st.ledger (try_move a s) more h.sound; long = long c; marks = under c })
      go false q = rw q h
