-- Theorems on the definitions of specs/NodeMoves: they stand here, so that the crate can be read with a definition changed. Assumes nothing.
use Rattle.std.specs.Prelude.{ℕ, ◌≤◌, ◌<◌, ◌≡◌, false, not, ◌&&◌, List, length, set}
use Rattle.std.proofs.Common.{arith, sym, ap, ap₂, ◌∙◌}
use Rattle.graphs.specs.Lists.{below}
use Rattle.graphs.specs.Walk.{via, cyclic, only}
use Rattle.move_ledger.specs.Graph.{Load, at, edge}
use Rattle.move_ledger.proofs.GraphLaws.{target_decides}
use Rattle.move_ledger.specs.Ledger.{step1}
use Rattle.move_ledger.specs.LoadLaws.{InOrder}
use Rattle.move_ledger.specs.Nodes.{placed, Placing, node_edge}
use Rattle.move_ledger.specs.NodeLaws.{placed-length, placed_at}
use Rattle.move_ledger.proofs.NodeWalks.{cyclic-nodes, via-nodes, only-nodes}
use Rattle.move_ledger.specs.NodeMoves.{placing_moved, placed-moved}
use Rattle.move_ledger.specs.NodeMoves as nodeMoves_here

module _ {load : Load} {nodes sets : List ℕ} (o : InOrder load) (p : Placing load nodes sets) {place : List ℕ} (is : placed nodes sets ≡ place)
    (a T y : ℕ) (b : y < length sets) (e : at sets y ≡ T) (n : ℕ) (wide : length sets ≤ n) where
  -- step 3's test
  pub moved-cyclic : cyclic (edge load (set place a T)) (set place a T) ≡ cyclic (node_edge load (set nodes a y) sets) (below n)
  moved-cyclic = ap (λ q. cyclic (edge load q) q) (sym (nodeMoves_here.placed-moved o p is a T y b e n wide)) ∙ sym (cyclic-nodes o (nodeMoves_here.placing_moved o p is a T y b e n wide) n wide)

  -- what the walk from the target's node marks
  pub moved_reaches : (x : ℕ) → x < length sets → via (edge load (set place a T)) (set place a T) T (at sets x) ≡ via (node_edge load (set nodes a y) sets) (below n) y x
  moved_reaches x c = ap₂ (λ q X. via (edge load q) q X (at sets x)) (sym (nodeMoves_here.placed-moved o p is a T y b e n wide)) (sym e) ∙ sym (via-nodes o (nodeMoves_here.placing_moved o p is a T y b e n wide) n wide y x b c)

  -- from an acyclic graph, whether it marks that node itself
  pub moved_decides : a < load.A → cyclic (edge load place) place ≡ false → cyclic (edge load (set place a T)) (set place a T) ≡ via (node_edge load (set nodes a y) sets) (below n) y y
  moved_decides l h =
      target_decides load place a T (sym (ap length is) ∙ placed-length nodes sets ∙ p.atoms) l h
      ∙ ap (λ X. via (edge load (set place a T)) (set place a T) T X) (sym e) ∙ moved_reaches y b

-- step 1's test
pub step1-nodes : {load : Load} {nodes sets : List ℕ} → InOrder load → Placing load nodes sets → (a n : ℕ) → a < load.A → length sets ≤ n
    → step1 load (placed nodes sets) a ≡ (cyclic (node_edge load nodes sets) (below n) && not (only (node_edge load nodes sets) (below n) (at nodes a)))
step1-nodes {load} {nodes} {sets} o p a n l wide =
    ap₂ (λ c t. c && not t) (sym (cyclic-nodes o p n wide))
    (ap (λ X. only (edge load (placed nodes sets)) (placed nodes sets) X) (placed_at nodes sets a (omega (arith, p.atoms))) ∙ sym (only-nodes o p n wide (at nodes a) (p.inside a l)))
