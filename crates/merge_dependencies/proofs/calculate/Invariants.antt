-- The links of the entries so far. Assumes nothing.
use mathlib.Core.Path.{◌≡◌}
use Rattle.merge_area.specs.Writes.{calc_area}
use Rattle.merge_dependencies.proofs.calculate.Given as goal

abbrev pub invariant-loop-i : goal.invariant-loop-i
invariant-loop-i l = (l.area ≡ calc_area l.fn.sizes l.starts l.dependencies l.initial.area l.i)
