-- The turns so far took the first `at` bytes. Assumes nothing.
use Rattle.std.proofs.Common.{◌-◌, true, length}
use Rattle.moves_commands.specs.Steps.{lent_held}
use Rattle.moves.specs.Turns.{Took}
use Rattle.moves.proofs.feed_block.Given as goal

abbrev pub invariant-loop-at : goal.invariant-loop-at
invariant-loop-at l = Took (lent_held l.initial.reading l.initial.starts l.initial.area) l.input (lent_held l.reading l.starts l.area) l.at true

abbrev pub decreases-loop-at : goal.decreases-loop-at
decreases-loop-at l = length l.input - l.at
