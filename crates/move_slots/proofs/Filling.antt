-- What the calls of `fill_slots` come to. Assumes nothing.
use mathlib.Core.Path.{◌≡◌, refl, sym, ap, subst, ◌∙◌}
use mathlib.Core.List.{List, ◌++◌}
use Prim.Native.Nat.{ℕ, ◌+◌, ◌-◌, ◌*◌, ◌<◌}
use native.Mathlib.Omega.{arith}
use lib.ListN.{length, take, drop}
use Rattle.std.proofs.Common.{get_or-take, length-take-le, length-append}
use Rattle.entry_set.specs.Lanes.{lanes}
use Rattle.graphs.specs.Tab.{tab, tab-length}
use Rattle.layout.specs.Patch.{patch, part}
use Rattle.move_ledger.specs.Graph.{Load, at, members}
use Rattle.move_slots.specs.Slots.{atoms, sources_by, targets_by}
use Rattle.move_slots.specs.Facades.{fronts_in}
use Rattle.move_slots.specs.SlotLaws.{tallied_members, InLanes, written_fronts, slots_written}
use Rattle.move_area.specs.Bodies.{atom_at}
use Rattle.move_area.specs.Area.{sets_in}
use Rattle.move_area.specs.Checked.{nodes_in, sets-length, sets-at}
use Rattle.layout.specs.Lent.{mid_part}
use Rattle.move_slots.specs.Filled.{CanFill, Filled, CanFillOwn}

module _ {load : Load} {n : ℕ} {nodes area : List ℕ} {registered : ℕ} {counts sources targets : List ℕ} (can : CanFill load n nodes area registered counts sources targets) (rest : List ℕ) {own : List ℕ} {m : ℕ} (m-is : m ≡ n)
    (t : own ≡ tab (atoms (take load.A nodes) (length (take load.A nodes))) m) where
  members_are : (x : ℕ) → x < n → at (own ++ rest) x ≡ members load nodes x
  members_are = tallied_members load nodes n rest can.atoms refl (ap (λ (v : List ℕ). v ++ rest) (t ∙ ap (tab (atoms (take load.A nodes) (length (take load.A nodes)))) m-is))

  in_lanes : InLanes load nodes (sets_in n area) area (n * n + 24) n (length (take registered (own ++ rest))) (take registered (own ++ rest))
  in_lanes =
      let long : length own ≡ n = ap length t ∙ tab-length _ m ∙ m-is in
      let all : length (take registered (own ++ rest)) ≡ registered = length-take-le registered (own ++ rest) (omega (arith, length-append own rest, can.few)) in
      record {
        many = all ∙ can.many ∙ sym (sets-length n area);
        set_at = λ x b. ap (λ (i : ℕ). lanes area i n) (omega arith) ∙ sym (sets-at n area x (omega (arith, sets-length n area)));
        count_at = λ x b.
            let z : x < registered = omega (arith, can.many, sets-length n area) in
            get_or-take registered (own ++ rest) x 0 z ∙ members_are x (omega (arith, can.few));
      }

  -- all that `fill_slots` writes
  pub fill_done : (more : List ℕ) {facade sources' targets' : List ℕ} {e : ℕ} → e ≡ load.E
      → facade ≡ fronts_in area (n * n + 24) n (length (take registered (own ++ rest))) (take registered (own ++ rest)) e
      → sources' ≡ patch 0 (sources_by load nodes (facade ++ more)) sources → targets' ≡ patch 0 (targets_by load nodes (facade ++ more)) targets
      → Filled load n nodes (sets_in n area) (own ++ rest) sources' targets'
  fill_done more {facade} z f p q = record {
    count_at = members_are;
    slots = slots_written sources targets (written_fronts more in_lanes (ap (λ (v : List ℕ). v ++ more) (f ∙ ap (fronts_in area (n * n + 24) n (length (take registered (own ++ rest))) (take registered (own ++ rest))) z))) can.sources_long can.targets_long p q;
  }

-- the area's own nodes are a part of it
module _ {load : Load} {n : ℕ} {area counts sources targets : List ℕ} (can : CanFillOwn load n area counts sources targets) where
  own_nodes : take load.A (drop (atom_at n) area) ≡ nodes_in load n area
  own_nodes =
      let to : ℕ = atom_at n + load.A in
      let q : to - atom_at n ≡ load.A = omega arith in
      subst (λ (k : ℕ). take k (drop (atom_at n) area) ≡ part (atom_at n) k area) q (mid_part (atom_at n) to area (omega arith) (omega (arith, can.loadable.sizes.area)))

  pub own_done : {nodes counts' sources' targets' : List ℕ} → nodes ≡ take load.A (drop (atom_at n) area) → Filled load n nodes (sets_in n area) counts' sources' targets'
      → Filled load n (nodes_in load n area) (sets_in n area) counts' sources' targets'
  own_done {nodes} {counts'} {sources'} {targets'} e f = subst (λ (v : List ℕ). Filled load n v (sets_in n area) counts' sources' targets') (e ∙ own_nodes) f
