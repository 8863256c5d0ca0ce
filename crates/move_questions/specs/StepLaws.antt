-- Laws of the listing's steps. Assumes nothing.
use Rattle.std.specs.Prelude.{ℕ, ◌+◌, ◌*◌, ◌<◌, ◌≡◌, not, List, eqb, length}
use Rattle.std.proofs.Common.{arith, ap, eq-eqb, ne_eqb}
use Rattle.graphs.specs.Count.{count_yes, count_no}
use Rattle.graphs.specs.Square.{index_lt}
use Rattle.graphs.specs.Total.{total-none, total-more}
use Rattle.move_questions.specs.Steps.{at, cells_before, CanFindCell}

-- one node more of a row
module _ (area : List ℕ) (n x : ℕ) (order : List ℕ) (j : ℕ) where
  pub cells_yes : (at area (x * n + at order j) ≡ 0 → ⊥) → cells_before area n x order (j + 1) ≡ cells_before area n x order j + 1
  cells_yes d = count_yes (λ q. not (eqb (at area (x * n + at order q)) 0)) j (ap not (ne_eqb _ 0 d))

  pub cells_no : at area (x * n + at order j) ≡ 0 → cells_before area n x order (j + 1) ≡ cells_before area n x order j
  cells_no e = count_no (λ q. not (eqb (at area (x * n + at order q)) 0)) j (ap not (eq-eqb _ 0 e))

-- where the edge from x to a node of the order stands
pub cell-inside : {area : List ℕ} {n x : ℕ} {order : List ℕ} → CanFindCell area n x order → (j : ℕ) → j < length order → x * n + at order j < length area
cell-inside {area} {n} {x} {order} c j h = omega (arith, index_lt n x (at order j) c.row (c.node j h), c.square)

-- one node more of the rows
pub ruleset rows_step = (total-none, total-more)
