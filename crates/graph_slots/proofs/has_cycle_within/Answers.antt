-- The lists are long enough. Assumes nothing.
use native.Mathlib.Omega.{arith}
use borrow.Author.Rules.{rules}
use Rattle.graph_slots.proofs.has_cycle_within.Goals as goal

pub has_cycle-requires : goal.has_cycle-requires
has_cycle-requires g c = let p = c.requires in (search rules, record { graph = p.0; nodes = p.1; small = omega (arith, p.1, p.2) })
