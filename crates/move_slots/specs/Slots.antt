-- The edge slots of the chunk graph as the code's lists give them: each atom's node, the load's lists, and the facade node of each entry bit.
-- Assumes nothing.
use Rattle.std.specs.Prelude.{cond, List, [], ℕ, ◌+◌, ◌-◌, ltb, eqb}
use Rattle.graphs.specs.Count.{count}
use Rattle.graphs.specs.Tab.{tab}
use Rattle.move_ledger.specs.Graph.{Load, at, owner, lent}
use Rattle.move_ledger.specs.Nodes.{face_source, face_target}

-- a load of atoms and entry bits alone: the ranges and the entry sets ask no more
abbrev pub bounds : ℕ → ℕ → Load
bounds a e = lent a 0 e [] [] []

-- how many of a atoms node x has
abbrev pub atoms : List ℕ → ℕ → ℕ → ℕ
atoms nodes a x = count (λ i. eqb (at nodes i) x) a

-- the ends of entry k
abbrev pub entry_source : Load → List ℕ → ℕ → ℕ
entry_source load nodes k = at nodes (owner load k)

abbrev pub entry_target : List ℕ → List ℕ → ℕ → ℕ
entry_target dependencies nodes k = at nodes (at dependencies k)

-- the ends of entry bit b's facade edge, from the node that `facade` has for it
abbrev pub facade_source : List ℕ → List ℕ → ℕ → ℕ
facade_source hosts facade b = face_source (at facade b) (at hosts b)

abbrev pub facade_target : List ℕ → List ℕ → List ℕ → ℕ → ℕ
facade_target hosts nodes facade b = face_target nodes (at facade b) (at hosts b)

-- the ends of slot k: dependency entry k, or the facade edge of bit k - D
unfoldable pub source_by : Load → List ℕ → List ℕ → ℕ → ℕ
source_by load nodes facade k = cond (ltb k load.D) (entry_source load nodes k) (facade_source load.hosts facade (k - load.D))

unfoldable pub target_by : Load → List ℕ → List ℕ → ℕ → ℕ
target_by load nodes facade k = cond (ltb k load.D) (entry_target load.dependencies nodes k) (facade_target load.hosts nodes facade (k - load.D))

-- the slots: those of ledger's `sources` and `targets`, where `facade` has each bit's front
unfoldable pub sources_by : Load → List ℕ → List ℕ → List ℕ
sources_by load nodes facade = tab (source_by load nodes facade) (load.D + load.E)

unfoldable pub targets_by : Load → List ℕ → List ℕ → List ℕ
targets_by load nodes facade = tab (target_by load nodes facade) (load.D + load.E)
