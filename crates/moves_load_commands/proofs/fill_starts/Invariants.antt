-- The starts up to i are filled in. Assumes nothing.
use Rattle.std.proofs.Common.{◌≡◌, ℕ, ◌<◌, length, get_or}
use Rattle.moves_load_commands.specs.Machine.{start}
use Rattle.moves_load_commands.proofs.fill_starts.Given as goal

abbrev pub invariant-loop-i : goal.invariant-loop-i
invariant-loop-i l = (k : ℕ) → k < l.i → get_or l.starts k 0 ≡ start l.sources (length l.sources) k
