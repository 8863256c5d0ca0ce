-- The nodes up to x that the atom may go to are counted. Assumes nothing.
use Rattle.std.proofs.Common.{◌≡◌, get_or}
use Rattle.graphs.specs.Count.{count}
use Rattle.move_freedom.specs.Tally.{admits}
use Rattle.move_freedom.proofs.flags.Flags.open_nodes.Given as goal

abbrev pub invariant-loop-x : goal.invariant-loop-x
invariant-loop-x l = l.all ≡ count (λ x. admits l.self (get_or l.counts x 0) l.own l.k x) l.x
