-- The first k pairs are written. Assumes nothing.
use Rattle.std.proofs.Common.{◌≡◌}
use Rattle.entry_set.specs.Sets.{width}
use Rattle.merge_loading.specs.Bare.{Named}
use Rattle.merge_loading.proofs.bare.write_pairs.Given as goal

abbrev pub invariant-loop-k : goal.invariant-loop-k
invariant-loop-k l = (l.w ≡ width l.places.sizes.bits) × Named l.places.sizes l.loading.sets.now l.loading.chunks.now l.initial.area l.k l.area
