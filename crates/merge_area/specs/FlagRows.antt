-- The rows of the dependency flags. Assumes nothing.
use Rattle.std.specs.Prelude.{ℕ, ◌+◌, ◌-◌, ◌*◌, ◌≤◌, ◌≡◌}
use Rattle.std.proofs.Common.{arith, add-mul, sym, ap, ◌∙◌}

-- the rows from n on end where all c rows end
pub rows-rest : (c n : ℕ) → n ≤ c → n * c + (c - n) * c ≡ c * c
rows-rest c n h = let e : n + (c - n) ≡ c = omega arith in sym (add-mul n (c - n) c) ∙ ap (λ k. k * c) e
