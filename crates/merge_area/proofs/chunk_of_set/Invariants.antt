-- No set so far is equal. Assumes nothing.
use Rattle.std.proofs.Common.{ℕ, ◌<◌, ◌≡◌}
use Rattle.entry_set.specs.Lanes.{lanes}
use Rattle.entry_set.specs.Sets.{number}
use Rattle.merge_area.specs.Layout.{set_place}
use Rattle.merge_area.proofs.chunk_of_set.Given as goal

abbrev pub invariant-loop-i : goal.invariant-loop-i
invariant-loop-i l = (k : ℕ) → k < l.i → lanes l.numbers (set_place l.fn.sizes k) 1 ≡ number l.set → ⊥
