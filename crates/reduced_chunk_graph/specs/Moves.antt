-- A move on a checked area: what is asked, and that it goes on as the ledger's. Assumes nothing.
use Rattle.std.specs.Prelude.{ℕ, ◌≡◌, true, cond, List, length}
use Rattle.move_ledger.specs.Graph.{Load}
use Rattle.move_ledger.specs.Answer.{Answer, is_refused}
use Rattle.move_ledger.specs.Ledger.{move}
use Rattle.move_ledger.specs.LoadLaws.{Loadable}
use Rattle.move_area.specs.Area.{encode, decode, consistent}
use Rattle.move_area.specs.Calls.{after}

-- the rows 1 to 6 and 9 don't fit
pub record CanGoOn (load : Load) (fixed : List ℕ) (n : ℕ) (area : List ℕ) : Type 0 where
  pub loadable : Loadable load n true (length area)
  pub marks : length fixed ≡ load.A
  pub sane : consistent load n area ≡ true

-- the ledger's answer, and the area of the next state, as it was where the move is refused
pub record GoesOn (load : Load) (fixed : List ℕ) (n : ℕ) (area : List ℕ) (atom : ℕ) (bits : List ℕ) (r : Answer) (l : List ℕ) : Type 0 where
  pub answer : r ≡ (move load fixed n (decode load n area).ledger atom bits).answer
  pub area_after : l ≡ cond (is_refused r) area (encode load n (after load fixed n (decode load n area) atom bits) area)
