-- The sizes that a call is given as four numbers. Assumes nothing.
use Rattle.std.specs.Prelude.{ℕ}
use Rattle.merge_state.specs.declared.Sizes.{Sizes}

-- SIZE: C, M, L and E
abbrev pub sized : ℕ → ℕ → ℕ → ℕ → Sizes
sized c m l e = record { chunks = c; modules = m; entries = l; bits = e }
