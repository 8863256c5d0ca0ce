-- What a load is that passes rows. Assumes nothing.
use Rattle.std.proofs.Common.{◌≡◌, false}
use Rattle.move_ledger.specs.Graph.{Load}
use Rattle.move_ledger.specs.Loading.{row4}
use Rattle.move_ledger.specs.LoadLaws.{row4_starts}
use Rattle.move_load_rows.specs.Checks.{Lengths, CanOwn}

pub can_own : {load : Load} → Lengths load → row4 load ≡ false → CanOwn load
can_own {load} l h = record { long = l.of_starts; full = l.of_dependencies; rise = row4_starts load h }
