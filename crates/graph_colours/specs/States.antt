-- The three states told apart. Assumes nothing.
use Rattle.std.specs.Prelude.{ℕ, zero, suc, ◌≤◌, ◌≡◌, refl}
use Rattle.std.proofs.Common.{arith, ap}
use Rattle.graph_colours.specs.declared.State.{State}
use Rattle.graph_colours.specs.declared.State.TheVariants.{White, Gray, Black}
use Rattle.graph_colours.specs.Colours.{colour_of}

-- a number for each state: the three differ
abbrev pub code : State → ℕ
code White = 0
code Gray = 1
code Black = 2

pub state-black : (c : ℕ) → 2 ≤ c → colour_of c ≡ Black
state-black zero h = absurd (omega arith)
state-black (suc zero) h = absurd (omega arith)
state-black (suc (suc k)) h = refl

pub state_known : (c : ℕ) → (c ≡ 0 → ⊥) → colour_of c ≡ White → ⊥
state_known zero h q = h refl
state_known (suc zero) h q = omega (arith, ap code q)
state_known (suc (suc k)) h q = omega (arith, ap code q)
