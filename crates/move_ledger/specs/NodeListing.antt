-- For the code: the number of edges and the k-th edge, over a list of nodes whose sets rise. Assumes nothing.
use Rattle.std.specs.Prelude.{ℕ, suc, ◌<◌, ◌≡◌, true, List, length}
use Rattle.graphs.specs.Count.{count}
use Rattle.graphs.specs.Lists.{has}
use Rattle.graphs.specs.Total.{total}
use Rattle.move_ledger.specs.Graph.{Load, at}
use Rattle.move_ledger.specs.Nodes.{node_edge}

-- a list of nodes by rising sets, in which each atom's node stands
pub record Sorted (nodes sets order : List ℕ) : Type 0 where
  pub inside : (i : ℕ) → i < length order → at order i < length sets
  pub rises : (i : ℕ) → suc i < length order → at sets (at order i) < at sets (at order (suc i))
  pub holds : (i : ℕ) → i < length nodes → has (at nodes i) order ≡ true

-- the number of edges from the i-th node of the order to its first j, and from its first i to all
abbrev pub in_row : Load → List ℕ → List ℕ → List ℕ → ℕ → ℕ → ℕ
in_row load nodes sets order i j = count (λ k. node_edge load nodes sets (at order i) (at order k)) j

abbrev pub in_rows : Load → List ℕ → List ℕ → List ℕ → ℕ → ℕ
in_rows load nodes sets order i = total (λ k. in_row load nodes sets order k (length order)) i
