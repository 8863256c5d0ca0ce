-- No row so far is a hit. Assumes nothing.
use Rattle.merge_warning.specs.EndHits.{end_hit}
use Rattle.graphs.specs.Lists.{some_below}
use mathlib.Core.Bool.{false}
use mathlib.Core.Path.{◌≡◌}
use Rattle.merge_warning.proofs.counted.some_end_hit.Given as goal

abbrev pub invariant-loop-i : goal.invariant-loop-i
invariant-loop-i l = (some_below (end_hit l.rows.flags.now l.rows.stride l.rows.count l.rows.ends.now l.rows.source l.marks) l.i ≡ false)
