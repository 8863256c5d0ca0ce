-- No marked chunk so far depends on the source. Assumes nothing.
use Rattle.graphs.specs.Lists.{some_below}
use Rattle.merge_warning.specs.Hits.{hit_at}
use mathlib.Core.Bool.{false}
use mathlib.Core.Path.{◌≡◌}
use Rattle.merge_warning.proofs.some_hit.Given as goal

abbrev pub invariant-loop-x : goal.invariant-loop-x
invariant-loop-x l = (some_below (hit_at l.rows.flags.now l.rows.stride l.rows.count l.source l.marks) l.x ≡ false)
