-- Merged chunks that stand for their target. Assumes nothing.
use Rattle.std.specs.Prelude.{ℕ, zero, suc, Bool, not, cond, ◌&&◌, eqb}
use Rattle.graph_walks.specs.Counted.{counted}
use Rattle.merge_state.specs.State.{None, Graph}

-- the chunk at the end of its merges, after at most k of them: `into x` is the chunk that x was merged into, or None
unfoldable pub ending : (ℕ → ℕ) → ℕ → ℕ → ℕ
ending into zero x = x
ending into (suc k) x = cond (eqb (into x) None) x (ending into k (into x))

-- x was merged into y
unfoldable pub merged_into : (ℕ → ℕ) → ℕ → ℕ → Bool
merged_into into x y = not (eqb (into x) None) && eqb (into x) y

-- x has already been merged away
abbrev pub gone : Graph → ℕ → Bool
gone g x = not (eqb (g.into x) None)

-- where x's merges end: there are fewer of them than chunks
abbrev pub end : Graph → ℕ → ℕ
end g x = ending g.into g.made x

-- the dependencies that count in the mode: a stored dependency on a merged chunk, or of one, counts as on or of the chunk at the end of its
-- merges, and dependencies on oneself are dropped
abbrev pub counts : Graph → ℕ → ℕ → Bool
counts g = counted g.depends (end g) g.made

-- a chunk merged away is no candidate of a later pass in the mode
abbrev pub waits : Graph → ℕ → Bool
waits g x = g.needs x && not (gone g x)
