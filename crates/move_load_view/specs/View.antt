-- A lent load as the ledger's record of one, and an atom's part of the dependencies. Assumes nothing.
use Rattle.std.specs.Prelude.{List, ℕ, ◌+◌, ◌-◌, ◌≤◌, ◌<◌, length}
use Rattle.layout.specs.Patch.{part}
use Rattle.move_ledger.specs.Graph.{at, lent}
use Rattle.move_ledger.specs.Graph as graph
use Rattle.move_load_view.specs.declared.Load.{Load}

-- the load that a call is lent
abbrev pub lent_by : Load → graph.Load
lent_by load = lent load.atoms load.entries load.bits load.starts.now load.dependencies.now load.hosts.now

-- the atom has two starts, rising and within the dependencies
pub record CanPart (starts dependencies : List ℕ) (atom : ℕ) : Type 0 where
  pub inside : atom + 1 < length starts
  pub rising : at starts atom ≤ at starts (atom + 1)
  pub within : at starts (atom + 1) ≤ length dependencies

-- the dependencies from the atom's start to the next one
abbrev pub dependencies_of : List ℕ → List ℕ → ℕ → List ℕ
dependencies_of starts dependencies atom = part (at starts atom) (at starts (atom + 1) - at starts atom) dependencies
