-- What an accepted move's writing asks. Assumes nothing.
use Rattle.std.specs.Prelude.{◌≡◌, ◌&&◌, ℕ, ◌+◌, ◌-◌, ◌*◌, ◌^◌, ◌≤◌, ◌<◌, length, get_or, set, replicate}
use Rattle.std.proofs.Common.{◌++◌, take, drop, sym, ◌∙◌, arith, zero-add, length-set, length-take-le}
use Rattle.std.proofs.Math.Path.{ap}
use mathlib.Core.List.{List}
use Rattle.std.proofs.Math.Nat.{mul-le-mul_right}
use Rattle.std.proofs.Math.Dec.{eqb, ltb}
use borrow.Rule.Slice.PartMut.{mid_of, put_mid}
use Rattle.graphs.specs.Count.{ind, count_le}
use Rattle.graphs.specs.Slots.{flat}
use Rattle.layout.specs.Patch.{patch, part, part_long, part_at, patch_long, patch-all}
use Rattle.layout.specs.Lent.{mid_part, put-patch}
use Rattle.move_edges.specs.Matrix.{Holds, matrix, matrix_long}
use Rattle.move_edges.specs.Steps.{Both, CanUpdate, Changed}
use Rattle.move_area.specs.Bodies.{lane_at, atom_at}
use Rattle.move_ledger.specs.Totals.{filled_cells, cells_moved}
use Rattle.move_try.specs.Areas.{totalled, committed}

-- the area's edges are those of the old slots
pub record CanFollow (area : List ℕ) (n : ℕ) (s t u v : List ℕ) (m : ℕ) : Type 0 where
  pub both : Both n s t u v m
  pub room : atom_at n ≤ length area
  pub holds : Holds area n s t m

-- the atom's node is one of n, and it leaves no more chunks than there are
pub record CanCountChunks (area : List ℕ) (n atom to : ℕ) (counts : List ℕ) : Type 0 where
  pub small : n ≤ 1024
  pub node : to < n
  pub place : atom_at n + atom < length area
  pub tallies : n ≤ length counts
  pub home : get_or area (atom_at n + atom) 0 < n
  pub few : get_or area (n * n + 3) 0 ≤ n
  pub left : ind (eqb (get_or counts (get_or area (atom_at n + atom) 0) 0) 0) ≤ get_or area (n * n + 3) 0 + ind (eqb (get_or area (lane_at n 8 + to) 0) 0)

pub record CanCommit (area : List ℕ) (n atom to : ℕ) (s t u v : List ℕ) (m : ℕ) (counts : List ℕ) : Type 0 where
  pub follow : CanFollow area n s t u v m
  pub rows : n ≤ 1024
  pub node : to < n
  pub place : atom_at n + atom < length area
  pub tallies : n ≤ length counts
  pub chunks : CanCountChunks area n atom to counts
  pub edges : get_or area (n * n + 4) 0 ≡ filled_cells s t n m

-- the square is lent, and comes back
module _ {area : List ℕ} {n : ℕ} {s t u v : List ℕ} {m : ℕ} (can : CanFollow area n s t u v m) where
  lent : mid_of 0 (n * n - 0) area ≡ part 0 (n * n) area
  lent =
      let z : n * n - 0 ≡ n * n = omega arith in
      mid_part 0 (n * n) area (omega arith) (omega (arith, can.room)) ∙ ap (λ k. part 0 k area) z

  pub follow_can : CanUpdate (mid_of 0 (n * n - 0) area) n s t u v m
  follow_can =
      record {
        both = can.both;
        square = omega (arith, ap length lent, part_long 0 (n * n) area);
        holds = record { at = λ i h. rw (lent, part_at 0 (n * n) area i h, zero-add i) (can.holds.at i h) };
      }

  pub follow-done : {w : List ℕ} → w ≡ patch 0 (matrix u v n m) (mid_of 0 (n * n - 0) area) → put_mid 0 (n * n - 0) area w ≡ patch 0 (matrix u v n m) area
  follow-done {w} q =
      let long : length (mid_of 0 (n * n - 0) area) ≡ n * n = ap length lent ∙ part_long 0 (n * n) area in
      let r : w ≡ matrix u v n m = q ∙ patch-all (matrix u v n m) (mid_of 0 (n * n - 0) area) (matrix_long u v n m ∙ sym long) in
      put-patch 0 (n * n) area w (omega arith) (omega (arith, can.room)) (omega (arith, ap length r, matrix_long u v n m)) ∙ ap (λ (k : List ℕ). patch 0 k area) r

  -- the same of the area's first numbers and the others
  pub followed : {w : List ℕ} → w ≡ patch 0 (matrix u v n m) (take (n * n) area) → w ++ drop (n * n) area ≡ patch 0 (matrix u v n m) area
  followed {w} q =
      let long : length (take (n * n) area) ≡ n * n = length-take-le (n * n) area (omega (arith, can.room)) in
      let r : w ≡ matrix u v n m = q ∙ patch-all (matrix u v n m) (take (n * n) area) (matrix_long u v n m ∙ sym long) in
      let z : n * n - 0 ≡ n * n = omega arith in
      rw z at (put-patch 0 (n * n) area w (omega arith) (omega (arith, can.room)) (omega (arith, ap length r, matrix_long u v n m))) ∙ ap (λ (k : List ℕ). patch 0 k area) r

-- what comes and goes fits the number of edges
module _ {k n : ℕ} {s t u v : List ℕ} {m come gone : ℕ} (small : n ≤ 1024) (is : k ≡ filled_cells s t n m) (c : Changed n s t u v m come gone) where
  -- the cells of the new slots
  pub edges_balance : k + come ≡ filled_cells u v n m + gone
  unfolding filled_cells
  edges_balance = omega (arith, is, c.appeared, c.vanished, cells_moved (flat s t n m) (flat u v n m) (n * n))

  pub edges_can : (gone ≤ k + come) × (k + come < 2 ^ 32)
  unfolding filled_cells
  edges_can =
      let a = mul-le-mul_right {m = n} {n = 1024} n small in (
        omega (arith, edges_balance),
        omega (arith, is, c.appeared, count_le (λ i. ltb 0 (flat s t n m i)) (n * n), count_le (λ i. eqb (flat s t n m i) 0 && ltb 0 (flat u v n m i)) (n * n)),
      )

  pub edges_now : k + come - gone ≡ filled_cells u v n m
  edges_now = omega (arith, edges_balance)

-- the writes, one after the other
module _ (n atom to chunks found : ℕ) (e counts area : List ℕ) {l₁ l₂ l₃ : List ℕ} (p₁ : l₁ ≡ patch 0 e area) (p₂ : l₂ ≡ totalled n chunks found l₁) (p₃ : l₃ ≡ patch (lane_at n 8) counts l₂) where
  pub commit_long : length l₃ ≡ length area
  commit_long = ap length p₃ ∙ patch_long (lane_at n 8) counts l₂ ∙ ap length p₂ ∙ simp length-set (ap length p₁ ∙ patch_long 0 e area)

  abbrev stored : List ℕ
  stored = set (set l₃ (atom_at n + atom) to) (n * n + 2) 1

  pub stored_long : length stored ≡ length area
  stored_long = simp length-set commit_long

  pub commit_done : {l₄ : List ℕ} → l₄ ≡ patch (lane_at n 10) (replicate n 0) stored → l₄ ≡ committed n e counts atom to chunks found area
  unfolding committed
  commit_done p₄ =
      p₄ ∙ ap (λ (u : List ℕ). patch (lane_at n 10) (replicate n 0) (set (set u (atom_at n + atom) to) (n * n + 2) 1)) (p₃ ∙ ap (patch (lane_at n 8) counts) (p₂ ∙ ap (totalled n chunks found) p₁))

  pub commit_same : {l₄ : List ℕ} → l₄ ≡ patch (lane_at n 10) (replicate n 0) stored → length l₄ ≡ length area
  commit_same p₄ = ap length p₄ ∙ patch_long (lane_at n 10) (replicate n 0) stored ∙ stored_long
