-- No column so far names the source. Assumes nothing.
use Rattle.merge_warning.specs.EndHits.{names}
use Rattle.graphs.specs.Lists.{some_below}
use mathlib.Core.Bool.{false}
use mathlib.Core.Path.{◌≡◌}
use Rattle.merge_warning.proofs.counted.row_names.Given as goal

abbrev pub invariant-loop-j : goal.invariant-loop-j
invariant-loop-j l = (some_below (names l.rows.flags.now l.rows.stride l.rows.count l.rows.ends.now l.rows.source l.i) l.j ≡ false)
