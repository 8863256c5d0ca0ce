-- What each call of `is_worked` asks, and what they come to. Assumes nothing.
use mathlib.Core.Path.{◌≡◌, refl, sym, ap, ◌∙◌}
use mathlib.Core.Bool.{Bool, true, false, not, ◌&&◌}
use mathlib.Core.List.{List}
use Prim.Native.Nat.{ℕ, ◌<◌}
use native.Mathlib.Omega.{arith}
use native.Mathlib.Nat.{zero-add}
use Rattle.std.proofs.Common.{get_or-take, length-take-le}
use lib.Dec.{ltb}
use lib.ListN.{length, get_or, take, replicate, length-replicate}
use Rattle.graphs.specs.Bools.{Decides, and_left, and_right, same_decides, both_decides}
use Rattle.graphs.specs.Count.{ind, count, count_ext}
use Rattle.graphs.specs.Total.{total, total-same}
use Rattle.graphs.specs.Lists.{below}
use Rattle.graphs.specs.Slots.{slot_edge}
use Rattle.graphs.specs.Walk.{only}
use Rattle.graph_slots.specs.Asked.{Slots}
use Rattle.layout.specs.Compare.{SamePart}
use Rattle.move_ledger.specs.Graph.{Load, at}
use Rattle.move_ledger.specs.Nodes.{node_edge}
use Rattle.move_ledger.specs.Totals.{busy_nodes, degrees_cells, above_none}
use Rattle.move_slots.specs.Filled.{Filled}
use Rattle.move_slots.specs.Counted.{slot_count, Counted, counted-ends, counted_le, counted-flat, counted-cyclic, counted-edge}
use Rattle.move_edges.specs.Matrix.{Holds}
use Rattle.move_edges.specs.Rows.{Compared}
use Rattle.move_area.specs.Bodies.{lane_at}
use Rattle.move_area.specs.Area.{sets_in}
use Rattle.move_area.specs.Checked.{nodes_in, Worked, sets-length, ranged_placing}
use Rattle.move_consistency.specs.Flags.{Flagged}
use Rattle.move_consistency.specs.Matched.{CanMatch, Matched}
use Rattle.move_consistency.specs.Totals.{TotalsAre, Totalled}
use Rattle.move_consistency.specs.Ready.{CanWork, WorkTold}

-- a second test that speaks where the first says yes
then_decides : {P Q : Type 0} {p q : Bool} → Decides P p → (p ≡ true → Decides Q q) → Decides (P × Q) (p && q)
then_decides {P} {Q} {p} {q} d e = record {
  right = λ h. let a = and_left p q h in (d.right a, (e a).right (and_right p q h));
  wrong = λ h w. no p refl h w;
}
  where
    no : (t : Bool) → p ≡ t → (p && q) ≡ false → P × Q → ⊥
    no true a h w = (e a).wrong (rw a at h) w.1
    no false a h w = d.wrong a w.0

-- a list of k noughts
abbrev pub blank : ℕ → List ℕ
blank k = replicate k 0

blank_long : (k : ℕ) → length (blank k) ≡ k
blank_long k = length-replicate k 0

module _ {load : Load} {n : ℕ} {area degrees : List ℕ} {nodes heads slots : ℕ} (can : CanWork load n area degrees nodes heads slots) where
  pub work_first : (l : List ℕ) → length l ≡ length degrees → length (take n l) ≡ n
  work_first l e = length-take-le n l (omega (arith, can.checked.degrees_long))

  pub work_counted : {m : ℕ} {counts s t : List ℕ} → Filled load n (nodes_in load n area) (sets_in n area) counts s t → m ≡ slot_count n load.D load.E
      → Counted load (nodes_in load n area) (sets_in n area) s t n m
  work_counted f e = record {
    order = can.checked.loadable.order;
    placing = ranged_placing can.checked.loadable.sizes.sets can.checked.ranged;
    few = omega (arith, sets-length n area, can.checked.ranged.few);
    slots = f.slots;
    many = e;
  }

  module _ {m : ℕ} {s t : List ℕ} (g : Counted load (nodes_in load n area) (sets_in n area) s t n m) (p : length s ≡ length (blank slots)) (q : length t ≡ length (blank slots)) where
    work_slots : Slots s t m n
    work_slots =
        let l = counted_le g in
        record {
          slots = omega (arith, can.checked.loadable.sizes.entries, can.checked.loadable.sizes.bits);
          sources = omega (arith, can.room.slots_long, blank_long);
          targets = omega (arith, can.room.slots_long, blank_long);
          ends = counted-ends g;
          nodes = can.checked.loadable.sizes.sets;
        }

    pub work_match : {counts : List ℕ} → length counts ≡ length degrees → CanMatch area n m s t (blank heads) (blank slots) (blank nodes) counts
    work_match e =
        let l = counted_le g in
        record {
          square = omega (arith, can.checked.loadable.sizes.area);
          slots = work_slots;
          lists = record { rows = omega (arith, can.room.rows, blank_long); room = omega (arith, can.room.slots_long, blank_long); short = omega (arith, can.room.slots_short, blank_long) };
          row_long = omega (arith, can.room.row_long, blank_long);
          degrees_long = omega (arith, can.checked.degrees_long);
        }

module _ {load : Load} {n m : ℕ} {area counts s t : List ℕ} (f : Filled load n (nodes_in load n area) (sets_in n area) counts s t) (g : Counted load (nodes_in load n area) (sets_in n area) s t n m) where
  by_parts : {r : Bool} → Decides (((SamePart area (lane_at n 8) counts 0 n × Holds area n s t m) × Totalled load n area) × Flagged (slot_edge s t m) n area) r → Decides (Worked load n area) r
  by_parts d =
      same_decides
      (λ p. record {
        counts = λ x b. p.0.0.0 x b ∙ ap (λ i. get_or counts i 0) (zero-add x) ∙ f.count_at x b;
        edges = λ i b. p.0.0.1.at i b ∙ counted-flat g i b;
        acyclic = p.1.acyclic ∙ ap (λ u. ind (not u)) (counted-cyclic g);
        component = λ x b. p.1.component x b ∙ same x b;
        occupied = p.0.1.0;
        distinct = p.0.1.1;
      })
      (λ w. (
        (
          (λ x b. w.counts x b ∙ sym (f.count_at x b) ∙ ap (λ i. get_or counts i 0) (sym (zero-add x)), record { at = λ i b. w.edges i b ∙ sym (counted-flat g i b) }),
          (w.occupied, w.distinct),
        ),
        record { acyclic = w.acyclic ∙ sym (ap (λ u. ind (not u)) (counted-cyclic g)); component = λ x b. w.component x b ∙ sym (same x b) },
      ))
      d
    where
      same : (x : ℕ) → x < n → ind (only (slot_edge s t m) (below n) x) ≡ ind (only (node_edge load (nodes_in load n area) (sets_in n area)) (below n) x)
      same x b = ap (λ (e : ℕ → ℕ → Bool). ind (only e (below n) x)) (counted-edge g (omega arith))

  module _ {heads list degrees : List ℕ} {r₂ : Bool} (d : Matched area n m s t heads list degrees r₂) where
    degrees_are : r₂ ≡ true → (x : ℕ) → x < n → get_or degrees x 0 ≡ count (node_edge load (nodes_in load n area) (sets_in n area) x) n
    degrees_are q x b = d.degree_at q x b ∙ ap (λ (e : ℕ → ℕ → Bool). count (e x) n) (counted-edge g (omega arith))

    totals_told : {k e : ℕ} {r : Bool} → Compared (take n counts) (λ y. 0) k → e ≡ total (at (take n degrees)) (length (take n degrees)) → Decides (TotalsAre k e n area) r
        → length (take n counts) ≡ n → length (take n degrees) ≡ n → r₂ ≡ true → Decides (Totalled load n area) r
    unfolding busy_nodes
    totals_told k e t cl dl q =
        let x = k.differ ∙ ap (count _) cl ∙ count_ext _ _ n (λ x b. sym (above_none (get_or (take n counts) x 0)) ∙ ap (ltb 0) (get_or-take n counts x 0 b ∙ f.count_at x b)) in
        let y = e ∙ ap (total (at (take n degrees))) dl ∙ total-same (at degrees) (at (take n degrees)) n (λ i b. get_or-take n degrees i 0 b) ∙ degrees_cells g.order g.placing n g.few (at degrees) (degrees_are q) in
        same_decides (λ p. (p.occupied ∙ x, p.distinct ∙ y)) (λ p. record { occupied = p.0 ∙ sym x; distinct = p.1 ∙ sym y }) t

    pub work_done : {k e : ℕ} {r₁ r₃ r₄ : Bool} → Decides (SamePart area (lane_at n 8) counts 0 n) r₁ → Compared (take n counts) (λ y. 0) k → e ≡ total (at (take n degrees)) (length (take n degrees))
        → Decides (TotalsAre k e n area) r₃ → Decides (Flagged (slot_edge s t m) n area) r₄ → length (take n counts) ≡ n → length (take n degrees) ≡ n → WorkTold load n area degrees (((r₁ && r₂) && r₃) && r₄)
    work_done {r₁ = r₁} {r₃ = r₃} {r₄ = r₄} c k e t u cl dl = record {
      says = by_parts (both_decides (then_decides (both_decides c d.says) (λ q. totals_told k e t cl dl (and_right r₁ r₂ q))) u);
      degree_at = λ q. degrees_are (and_right r₁ r₂ (and_left (r₁ && r₂) r₃ (and_left ((r₁ && r₂) && r₃) r₄ q)));
    }
