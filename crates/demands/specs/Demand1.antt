-- Demand 1 of the move graph: a refusal changes no lent memory. Assumes nothing.
use Rattle.std.specs.Prelude.{ℕ, ◌≡◌, refl, true, List}
use Rattle.move_ledger.specs.Graph.{Load}
use Rattle.move_ledger.specs.Answer.{is_refused}
use Rattle.move_ledger.specs.Ledger.{Call, try_move, asks}
use Rattle.move_area.specs.Calls.{new}
use Rattle.move_area.specs.Calls as calls
use Rattle.move_area.specs.History.{call_area}

-- a refusal changes no lent memory: a loading
pub refused_loading : (load : Load) (fixed : List ℕ) (N : ℕ) (sets area : List ℕ) → is_refused (new load fixed N sets area).answer ≡ true → (new load fixed N sets area).area ≡ area
unfolding new
refused_loading load fixed N sets area h = rw h refl

-- and every later call. The load's lists are lent for reading only
pub refused_call : (load : Load) (fixed : List ℕ) (N : ℕ) (area : List ℕ) (c : Call) → is_refused (call_area load fixed N area c).answer ≡ true → (call_area load fixed N area c).area ≡ area
unfolding call_area calls.try_move
refused_call load fixed N area (try_move a s) h = rw h refl
refused_call load fixed N area (asks q) h = refl
