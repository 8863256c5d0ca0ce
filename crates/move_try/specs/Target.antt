-- Step 2, the target's node: what is asked for it, and what is written. Assumes nothing.
use Rattle.std.specs.Prelude.{◌≡◌, true, cond, List, ℕ, ◌+◌, ◌*◌, ◌≤◌, ◌<◌, eqb, length}
use Rattle.set_order.specs.Order.{lane_set, First}
use Rattle.move_places.specs.Least.{empty}
use Rattle.move_area.specs.Bodies.{atom_at}
use Rattle.move_try.specs.Areas.{registered, sets_with}
use Rattle.move_try.specs.Early.{Place}

-- m of n nodes have a set, and where all have one, some node has no atom
pub record CanTarget (n m : ℕ) (area : List ℕ) : Type 0 where
  pub small : n ≤ 1024
  pub room : atom_at n ≤ length area
  pub few : m ≤ n
  pub free : m ≡ n → (x : ℕ) × (x < n) × (empty area (n * n + 24 + 8 * n) x ≡ true)

-- the target T has the place `to`; where none of the m nodes has it, it is registered there
pub record Targeted (n m T : ℕ) (area : List ℕ) (to : ℕ) (area' : List ℕ) : Type 0 where
  pub node : ℕ
  pub first : First (lane_set area (n * n + 24) n) m T node
  pub place : Place area n node to
  pub after : area' ≡ cond (eqb node m) (registered n (sets_with m to) to T area) area
