-- What each call of `in_ranges` asks, and what they come to. Assumes nothing.
use mathlib.Core.Path.{◌≡◌, sym, ap, ◌∙◌}
use mathlib.Core.Bool.{Bool, ◌&&◌}
use mathlib.Core.List.{List}
use Prim.Native.Nat.{ℕ, ◌+◌, ◌*◌, ◌≤◌, ◌<◌}
use native.Mathlib.Omega.{arith}
use lib.ListN.{get_or}
use Rattle.graphs.specs.Bools.{Decides, same_decides, both_decides}
use Rattle.entry_set.specs.Lanes.{lanes}
use Rattle.move_ledger.specs.Graph.{Load, at}
use Rattle.layout.specs.Compare.{PartUpTo, PartBelow}
use Rattle.set_order.specs.Order.{lane_set, Distinct}
use Rattle.move_area.specs.Bodies.{lane_at, atom_at}
use Rattle.move_area.specs.Area.{sets_in}
use Rattle.move_area.specs.ListLaws.{one_place}
use Rattle.move_area.specs.ListLaws as sets
use Rattle.move_area.specs.Checked.{sets-length, sets-at}
use Rattle.move_consistency.specs.Ranges.{SetsBelow, SetOrder, RangeTold}

module _ (n : ℕ) (area : List ℕ) where
  key-at : (x : ℕ) → x < get_or area (n * n) 0 → at (sets_in n area) x ≡ lane_set area (n * n + 24) n x
  key-at x b = sets-at n area x b ∙ ap (λ (i : ℕ). lanes area i n) (omega arith)

  apart_sets : Distinct (lane_set area (n * n + 24) n) (get_or area (n * n) 0) → sets.Distinct (sets_in n area)
  apart_sets d = record {
    apart = λ i j h b e.
        let l = sets-length n area in
        let q = d.same i j (omega arith) (omega arith) (sym (key-at i (omega arith)) ∙ e ∙ key-at j (omega arith)) in
        omega arith;
  }

  sets_apart : sets.Distinct (sets_in n area) → Distinct (lane_set area (n * n + 24) n) (get_or area (n * n) 0)
  sets_apart d = record {
    same = λ x y bx by e. one_place d x y (omega (arith, sets-length n area)) (omega (arith, sets-length n area)) (key-at x bx ∙ e ∙ sym (key-at y by));
  }

pub range_done : {load : Load} {n : ℕ} {area order : List ℕ} {p q r s : Bool} → get_or area (n * n) 0 ≤ n → SetOrder n area order → Decides (PartBelow area (atom_at n) load.A (get_or area (n * n) 0)) p → Decides (PartUpTo area (lane_at n 9) n (get_or area (n * n + 1) 0)) q
    → Decides (SetsBelow area (n * n + 24) n (get_or area (n * n) 0) load.E) r → Decides (Distinct (lane_set area (n * n + 24) n) (get_or area (n * n) 0)) s
    → RangeTold load n area order (((p && q) && r) && s)
range_done {load} {n} {area} few o dp dq dr ds = record {
  says =
      same_decides
      (λ w. record {
        few = few;
        nodes = w.0.0.0;
        distinct = apart_sets n area w.1;
        range = λ x b. rw (key-at n area x b) (w.0.1 x b);
        marks = w.0.0.1;
      })
      (λ w. (((w.nodes, w.marks), λ x b. rw (key-at n area x b) at (w.range x b)), sets_apart n area w.distinct))
      (both_decides (both_decides (both_decides dp dq) dr) ds);
  ordered = λ h. o;
}
