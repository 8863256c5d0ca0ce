-- The modules of the chunks passed so far are listed. Assumes nothing.
use Rattle.std.proofs.Common.{get_or}
use Rattle.merge_loading.specs.Listing.{Listed}
use Rattle.merge_loading.proofs.entries.list_modules.Given as goal

abbrev pub invariant-loop-x : goal.invariant-loop-x
invariant-loop-x l = let s = l.loading in Listed l.sizes s.initial s.starts.now s.modules.now s.effects.now l.initial.area l.x (get_or s.starts.now l.x 0) l.area
