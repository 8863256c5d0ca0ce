-- Marks and a stack of 1,024 serve for up to so many nodes. Assumes nothing.
use Rattle.std.proofs.Common.{ℕ, ◌≤◌, replicate, arith}
use Rattle.graphs.specs.Tab.{zeros}
use Rattle.graph_walks.specs.Spread.{Unmarked}

pub unmarked : {n : ℕ} → n ≤ 1024 → Unmarked n 1 (replicate 1024 0) (replicate 1024 0)
unmarked h = record { cells = omega arith; room = omega arith; fresh = λ x b. omega (arith, zeros 1024 x) }
