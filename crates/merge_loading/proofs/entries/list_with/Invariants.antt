-- The modules passed so far are listed. Assumes nothing.
use Rattle.std.proofs.Common.{◌≡◌}
use Rattle.merge_loading.specs.Listing.{with_area}
use Rattle.merge_loading.proofs.entries.list_with.Given as goal

abbrev pub invariant-loop-m : goal.invariant-loop-m
invariant-loop-m l = l.area ≡ with_area l.sizes l.chunk.0 l.modules l.effects l.initial.area l.m-index
