-- What the program's lists have room for. Assumes nothing.
use Rattle.std.specs.Prelude.{Bool, ◌&&◌, List, ℕ, ◌≤◌, leb, length}
use Rattle.moves_load_commands.specs.declared.Machine.{Machine}
use Rattle.moves_load_commands.specs.declared.Reading.{Reading}

-- the lists of the commands before the load have room for the program's limits
pub record Roomy (sets sources dependencies hosts : List ℕ) : Type 0 where
  pub for_sets : 48 ≤ length sets
  pub for_sources : 128 ≤ length sources
  pub for_dependencies : 128 ≤ length dependencies
  pub for_hosts : 16 ≤ length hosts

-- 48 atoms and 128 dependencies are named at most
abbrev pub within : Machine → Bool
within m = leb m.atoms 48 && leb m.entries 128

-- whether the lists have that room
abbrev pub roomy : Reading → Bool
roomy r = leb 48 (length r.sets) && (leb 128 (length r.sources) && (leb 128 (length r.dependencies) && leb 16 (length r.hosts)))
