-- What each call of `consistent` asks, and what they come to. Assumes nothing.
use mathlib.Core.Path.{◌≡◌, refl, sym}
use mathlib.Core.Bool.{Bool, true, false, true≢false}
use mathlib.Core.List.{List}
use Prim.Native.Nat.{ℕ, ◌+◌, ◌^◌, ◌≤◌, ◌<◌}
use native.Mathlib.Omega.{arith}
use lib.ListN.{length, get_or}
use Rattle.graphs.specs.Bools.{fails, alike}
use Rattle.move_ledger.specs.Graph.{Load}
use Rattle.move_ledger.specs.LoadLaws.{Loadable}
use Rattle.move_area.specs.Bodies.{atom_at}
use Rattle.move_area.specs.Area.{consistent}
use Rattle.move_area.specs.Checked.{checked-consistent, consistent_ranged, consistent_worked}
use Rattle.move_consistency.specs.Ranges.{RangeTold}
use Rattle.move_consistency.specs.Ready.{WorkTold, CanCheck, Told}

module _ {load : Load} {n : ℕ} {area degrees order : List ℕ} (can : CanCheck load n area degrees order) where
  loadable : Loadable load n true (length area)
  loadable = can.loadable

  room : atom_at n + load.A ≤ length area
  room = omega (arith, loadable.sizes.area)

  module _ {order' : List ℕ} {q : Bool} (t : RangeTold load n area order' q) where
    pub check_no : {degrees' : List ℕ} → q ≡ false → Told load n area degrees' order' false
    check_no h = record {
      says = sym (fails _ (λ c. t.says.wrong h (consistent_ranged load n area loadable.order loadable.sizes.sets room c)));
      ready = λ z. absurd (true≢false (sym z));
    }

    module _ (h : q ≡ true) where
      pub check_done : {degrees' : List ℕ} {r : Bool} → ((i : ℕ) → get_or area i 0 < 2 ^ 32) → WorkTold load n area degrees' r
          → Told load n area degrees' order' r
      check_done {r = r} cells w = record {
        says =
            alike r (consistent load n area)
            (λ z. checked-consistent load n area loadable.order loadable.sizes.sets room cells (t.says.right h) (w.says.right z))
            (λ c. yes r refl c);
        ready = λ z. record {
          loadable = loadable;
          ranged = t.says.right h;
          worked = w.says.right z;
          degree_at = w.degree_at z;
          ordered = t.ordered h;
        };
      }
        where
          yes : (u : Bool) → r ≡ u → consistent load n area ≡ true → r ≡ true
          yes true z c = z
          yes false z c = absurd (w.says.wrong z (consistent_worked load n area loadable.order loadable.sizes.sets room c))
