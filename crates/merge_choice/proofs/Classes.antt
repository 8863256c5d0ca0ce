-- Theorems on the definitions of specs/Classes: they stand here, so that the crate can be read with a definition changed. Assumes nothing.
use Rattle.std.specs.Prelude.{ℕ, ◌<◌, ◌≡◌, refl, Bool, false, not, cond, get_or, eqb}
use Rattle.std.proofs.Common.{eqb-true}
use Rattle.std.proofs.lemmas.Bool.{not-false}
use Rattle.graphs.specs.Lists.{any, below, some_below, some_none}
use Rattle.merge_choice.specs.Choice.{built_in}
use Rattle.merge_choice.specs.Classes.{user_kind}

-- the table's rule, one test over its eight rows: so rows 0 and 2 are dynamic
abbrev off : ℕ → Bool
off kind = not (eqb (get_or built_in kind 0) (cond (user_kind kind) 1 0))

none-off : some_below off 8 ≡ false
unfolding any below user_kind
none-off = refl

pub built_in-rows : (kind : ℕ) → kind < 8 → get_or built_in kind 0 ≡ cond (user_kind kind) 1 0
built_in-rows kind h = eqb-true _ _ (not-false _ (some_none off 8 none-off kind h))
