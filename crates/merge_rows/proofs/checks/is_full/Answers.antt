-- The log is as long as the header says. Assumes nothing.
use Rattle.std.proofs.Common.{refl}
use Rattle.merge_state.specs.Pairs.{pairs-length}
use Rattle.merge_rows.proofs.checks.is_full.Goals as goal

pub returns : goal.returns
returns c = rw (pairs-length, c.header.ensures) refl
