-- Leaving out dependency entries never turns an accepted move into a rejected one. Assumes nothing.
use Rattle.std.specs.Prelude.{ℕ, ◌<◌, ◌≡◌}
use Rattle.move_ledger.specs.Graph.{Load, at, owner}

-- some dependency entries are left out: each entry of `few` is one of `all`, of the same atom and on the same. A, E, N, hosts and marks are the same
-- on both sides: N is lent beside a load and the marks too
pub record Fewer (few all : Load) : Type 0 where
  pub atoms : few.A ≡ all.A
  pub bits : few.E ≡ all.E
  pub hosts : few.hosts ≡ all.hosts
  pub entries : (k : ℕ) → k < few.D → (j : ℕ) × (j < all.D) × (owner all j ≡ owner few k) × (at all.dependencies j ≡ at few.dependencies k)
