-- A node is passed: what its steps read, and the degrees before the first and after each. Assumes nothing.
use Rattle.std.specs.Prelude.{ℕ, ◌+◌, ◌*◌, ◌≤◌, ◌<◌, ◌≡◌, refl, List, length, set}
use Rattle.std.proofs.Common.{arith, get_or-set_same, get_or-set_other, ◌∙◌}
use Rattle.std.proofs.Math.Decide.{ℕ_discrete}
use Rattle.graphs.specs.Count.{ind}
use Rattle.graphs.specs.Square.{index_lt}
use Rattle.move_ledger.specs.Graph.{at}
use Rattle.start_order.specs.declared.nodes.Nodes.{Nodes}
use Rattle.start_order.specs.Steps.{leads, CanPass, Passed}

pub passed_none : (area : List ℕ) (n z : ℕ) (degrees : List ℕ) → Passed area n 0 z degrees degrees
passed_none area n z degrees = record { passed = λ y l. absurd (omega arith); others = λ y l. refl }

pub pass_cell : {g : Nodes} {z : ℕ} {degrees : List ℕ} → CanPass g z degrees → (y : ℕ) → y < g.registered → y * g.area.n + z < length g.area.numbers.now
pass_cell {g} {z} can y l = omega (arith, index_lt g.area.n y z (omega (arith, g.few)) can.target, g.room)

-- one node more
module _ {g : Nodes} {z : ℕ} {degrees : List ℕ} (can : CanPass g z degrees) {y : ℕ} {degrees' : List ℕ} (v : Passed g.area.numbers.now g.area.n y z degrees degrees') (l : y < g.registered) where
  old : at degrees' y ≡ at degrees y
  old = v.others y (omega arith)

  pub pass_less : ind (leads g.area.numbers.now g.area.n z y) ≤ at degrees' y
  pass_less = omega (arith, old, can.some y l)

  pub passed-more : length degrees' ≡ length degrees → (left : ℕ) → left + ind (leads g.area.numbers.now g.area.n z y) ≡ at degrees' y → Passed g.area.numbers.now g.area.n (y + 1) z degrees (set degrees' y left)
  passed-more long left e = record {
    passed = λ x b. elim (ℕ_discrete x y) [ yes q ↦ rw q (omega (arith, put, e, old)) | no q ↦ omega (arith, get_or-set_other degrees' y x left 0 q, v.passed x (omega arith)) ];
    others = λ x b. get_or-set_other degrees' y x left 0 (omega arith) ∙ v.others x (omega arith);
  }
    where
      put : at (set degrees' y left) y ≡ left
      put = get_or-set_same degrees' y left 0 (omega (arith, can.long))
