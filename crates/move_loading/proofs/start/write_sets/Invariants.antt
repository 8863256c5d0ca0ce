-- `move_loading::start::write_sets`: the lanes up to j are written. Assumes nothing.
use Rattle.std.proofs.Common.{◌≡◌, take}
use Rattle.layout.specs.Fields.{lay}
use Rattle.move_loading.specs.Start.{word_fields}
use Rattle.move_loading.proofs.start.write_sets.Given as goal

abbrev pub invariant-loop-j : goal.invariant-loop-j
invariant-loop-j l = l.area ≡ lay (take l.j (word_fields l.n l.width l.sets l.count)) l.fn.area
