-- What each step of a move writes into the area. Assumes nothing.
use Rattle.std.specs.Prelude.{◌≡◌, Bool, true, false, ℕ, ◌+◌, ◌-◌, ◌*◌, ◌≤◌, ◌<◌, eqb, get_or, replicate}
use Rattle.std.proofs.Math.Path.{ap, ap₂}
use Rattle.std.proofs.Common.{◌∙◌, arith}
use Rattle.std.proofs.Math.Bool.{cond}
use borrow.Rule.Slice.PartMut.{mid_of, put_mid}
use mathlib.Core.List.{List}
use Rattle.std.proofs.Math.ListN.{length, set}
use Rattle.graphs.specs.Count.{ind}
use Rattle.layout.specs.Patch.{patch, part, part_long, patch-same}
use Rattle.layout.specs.Lent.{mid_part, put-patch}
use Rattle.entry_set.specs.Joined.{parts}
use Rattle.entry_set.specs.LaneLaws.{length-set_strided}
use Rattle.entry_set.specs.Lanes.{set_lanes}
use Rattle.move_area.specs.Bodies.{lane_at, atom_at}
use Rattle.move_area.specs.Calls.{last, next}
use Rattle.move_counter.specs.Marks.{unmarked}

-- the set X as node r: its eight words, the number of registered sets, and no mark
unfoldable pub registered : ℕ → ℕ → ℕ → ℕ → List ℕ → List ℕ
registered n count r X l = set (set (set_lanes l (lane_at n 0 + r) n X) (n * n) count) (lane_at n 9 + r) 0

-- how many sets are registered once one has the place `to`: one more of m where that is the next one
abbrev pub sets_with : ℕ → ℕ → ℕ
sets_with m to = cond (eqb to m) (m + 1) m

-- the place is one of n, of which m are taken, and the area has the lanes
pub record CanRegister (n m to : ℕ) (l : List ℕ) : Type 0 where
  pub within : to < n
  pub few : m ≤ n
  pub small : n ≤ 1024
  pub room : atom_at n ≤ length l

-- a set's eight words leave the area as long as it was
pub written_long : (n at X : ℕ) (l : List ℕ) {l' : List ℕ} → l' ≡ set_lanes l at n X → length l' ≡ length l
written_long n at X l e = ap length e ∙ length-set_strided l at n (parts 32 8 X)

pub registered_written : (n count r X : ℕ) (l : List ℕ) {l' : List ℕ} → l' ≡ set_lanes l (n * n + 24 + r) n X
    → set (set l' (n * n) count) (n * n + 24 + 9 * n + r) 0 ≡ registered n count r X l
unfolding registered
registered_written n count r X l e =
    let q : n * n + 24 + r ≡ lane_at n 0 + r = omega arith in
    ap (λ (u : List ℕ). set (set u (n * n) count) (lane_at n 9 + r) 0) (e ∙ ap (λ i. set_lanes l i n X) q)

-- the walk counter
abbrev pub counter_in : ℕ → List ℕ → ℕ
counter_in n l = get_or l (n * n + 1) 0

-- the counter raised: from 4,294,967,295, the last one, all marks are cleared and it starts again
unfoldable pub raised : ℕ → List ℕ → List ℕ
raised n l = set (cond (last (counter_in n l)) (patch (lane_at n 9) (replicate n 0) l) l) (n * n + 1) (next (counter_in n l))

-- the marks lane is lent to the walk and to its start
module _ (n : ℕ) (area : List ℕ) (room : atom_at n ≤ length area) where
  abbrev at : ℕ
  at = lane_at n 9

  pub marks-lent : mid_of at (at + n - at) area ≡ part at n area
  marks-lent =
      let z : at + n - at ≡ n = omega arith in
      mid_part at (at + n) area (omega arith) (omega arith) ∙ ap (λ k. part at k area) z

  -- it comes back with the marks that the walk starts with
  abbrev marks : List ℕ
  marks = part at n area

  started-marks : (t : Bool) → patch at (cond t (replicate (length marks) 0) marks) area ≡ cond t (patch at (replicate n 0) area) area
  started-marks true = ap (λ k. patch at (replicate k 0) area) (part_long at n area)
  started-marks false = patch-same at marks area (ap (λ k. part at k area) (part_long at n area))

  pub raised-done : {r : ℕ} {m : List ℕ} → r ≡ next (counter_in n area) → m ≡ unmarked (counter_in n area) (mid_of at (at + n - at) area)
      → length m ≡ length (mid_of at (at + n - at) area) → set (put_mid at (at + n - at) area m) (n * n + 1) r ≡ raised n area
  unfolding raised unmarked
  raised-done {r} {m} c e l =
      let long : length m ≡ at + n - at = omega (arith, ap length marks-lent, part_long at n area) in
      let q : put_mid at (at + n - at) area m ≡ cond (last (counter_in n area)) (patch at (replicate n 0) area) area =
      put-patch at (at + n) area m (omega arith) (omega arith) long ∙ ap (λ (u : List ℕ). patch at u area) (e ∙ ap (unmarked (counter_in n area)) marks-lent) ∙ started-marks (last (counter_in n area)) in
      ap₂ (λ (u : List ℕ) k. set u (n * n + 1) k) q c

-- the totals of the header
abbrev pub totalled : ℕ → ℕ → ℕ → List ℕ → List ℕ
totalled n chunks found l = set (set l (n * n + 3) chunks) (n * n + 4) found

-- how many sets have an atom after a move of `atom` to node `to`, where `counts` has the counts after it: one more where the target had none,
-- one fewer where the atom's node has none left
abbrev pub chunks_after : ℕ → List ℕ → ℕ → ℕ → List ℕ → ℕ
chunks_after n counts atom to l = get_or l (n * n + 3) 0 + ind (eqb (get_or l (lane_at n 8 + to) 0) 0) - ind (eqb (get_or counts (get_or l (atom_at n + atom) 0) 0) 0)

-- how many distinct edges there are once some have appeared and vanished
abbrev pub edges_after : ℕ → ℕ → ℕ → List ℕ → ℕ
edges_after n come gone l = get_or l (n * n + 4) 0 + come - gone

-- an accepted move: the moved graph's edges, the totals, the counts, the atom's node, no cycle and no component
unfoldable pub committed : ℕ → List ℕ → List ℕ → ℕ → ℕ → ℕ → ℕ → List ℕ → List ℕ
committed n edges counts atom to chunks found l =
    patch (lane_at n 10) (replicate n 0) (set (set (patch (lane_at n 8) counts (totalled n chunks found (patch 0 edges l))) (atom_at n + atom) to) (n * n + 2) 1)
