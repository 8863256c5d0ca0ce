-- The edges of the nodes that were passed, and what is left to pass. Assumes nothing.
use Prim.Native.Nat.{◌+◌}
use mathlib.Core.Path.{◌≡◌}
use Rattle.move_questions.specs.Steps.{edges_before}
use Rattle.move_questions.proofs.find_row.Given as goal

abbrev pub invariant-loop-at : goal.invariant-loop-at
invariant-loop-at l = edges_before l.order l.degrees l.at + l.rest ≡ l.k
