-- What a walk marks. Assumes nothing.
use Rattle.std.specs.Prelude.{ℕ, Bool, cond, List, get_or, length}
use Rattle.graphs.specs.Lists.{below}
use Rattle.graphs.specs.Tab.{tab}
use Rattle.graphs.specs.Walk.{via}

-- the marks, with `mark` where the test passes
unfoldable pub marking : (ℕ → Bool) → ℕ → List ℕ → List ℕ
marking p mark marks = tab (λ x. cond (p x) mark (get_or marks x 0)) (length marks)

-- the marks, with `mark` at the nodes that root reaches in one step or more
abbrev pub marked : (ℕ → ℕ → Bool) → ℕ → ℕ → ℕ → List ℕ → List ℕ
marked e n mark root marks = marking (via e (below n) root) mark marks
