-- What the lists that are lent to a reading hold. Assumes nothing.
use Rattle.std.specs.Prelude.{◌≡◌}
use Rattle.moves_load_commands.specs.declared.LentReading.{LentReading}
use Rattle.moves_load_commands.specs.declared.Reading.{Reading}

-- the machine, and the lists as they are now
abbrev pub shown : LentReading → Reading
shown r = record { machine = r.machine; sets = r.sets.now; sources = r.sources.now; dependencies = r.dependencies.now; hosts = r.hosts.now }

-- the lists are those that were lent
pub record SameLists (old new : LentReading) : Type 0 where
  pub sets : new.sets.ghost_name ≡ old.sets.ghost_name
  pub sources : new.sources.ghost_name ≡ old.sources.ghost_name
  pub dependencies : new.dependencies.ghost_name ≡ old.dependencies.ghost_name
  pub hosts : new.hosts.ghost_name ≡ old.hosts.ghost_name
