-- The ledger after a loading and a list of calls. Assumes nothing.
use Rattle.std.specs.Prelude.{ℕ, ◌≡◌, List, length}
use Rattle.move_ledger.specs.Graph.{Load}
use Rattle.move_ledger.specs.Ledger.{Ledger, loaded, Call, ledger}
use Rattle.move_ledger.specs.Loading.{entry_sets}
use Rattle.move_ledger.specs.LoadLaws.{entry_sets-length}
use Rattle.move_ledger.proofs.MoveLaws.{ledger-length}

-- its ledger is fed the load, entry sets, N and the calls' arguments, nothing else: `sets` are the entry sets as they are lent, `fixed` the load's list of A
-- marks
abbrev pub history : Load → List ℕ → ℕ → List ℕ → List Call → Ledger
history load fixed N sets calls = ledger load fixed N (loaded (entry_sets load sets)) calls

-- every atom has a set at each point
pub history-length : (load : Load) (fixed : List ℕ) (N : ℕ) (sets : List ℕ) (calls : List Call) → length (history load fixed N sets calls).place ≡ load.A
history-length load fixed N sets calls = ledger-length load fixed N (loaded (entry_sets load sets)) calls (entry_sets-length load sets)
