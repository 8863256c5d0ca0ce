-- The edges that were passed, and how many are left to pass. Assumes nothing.
use Prim.Native.Nat.{◌+◌}
use mathlib.Core.Path.{◌≡◌}
use Rattle.move_questions.specs.Steps.{cells_before}
use Rattle.move_questions.proofs.find_cell.Given as goal

abbrev pub invariant-loop-j : goal.invariant-loop-j
invariant-loop-j l = cells_before l.area.numbers.now l.area.n l.x l.order l.j + l.left ≡ l.rest
