-- What the slots with an atom set aside come to. Assumes nothing.
use Rattle.std.specs.Prelude.{◌≡◌, List, ◌++◌, ℕ, ◌+◌, ◌-◌, ◌*◌, ◌≤◌, ◌<◌, length, get_or, set, take, drop, refl}
use Rattle.std.proofs.Common.{sym, ap, ◌∙◌, arith, length-take-le, length-append, length-set, get_or-set_same, get_or-set_other, zero-add, ext_get_or, subst}
use Rattle.std.proofs.Math.Decide.{ℕ_discrete}
use Rattle.std.proofs.Math.Seq.{take-length}
use Rattle.graphs.specs.Tab.{tab, tab-length}
use Rattle.layout.specs.Patch.{patch, part, part_long, part_at, patch_long, patch_in}
use Rattle.layout.specs.Lent.{mid_part}
use Rattle.entry_set.specs.Lanes.{lanes}
use Rattle.move_ledger.specs.Graph.{Load, at, members}
use Rattle.move_area.specs.Bodies.{atom_at}
use Rattle.move_area.specs.Area.{sets_in}
use Rattle.move_area.specs.Checked.{nodes_in, sets-length, sets-at}
use Rattle.move_slots.specs.Slots.{atoms, sources_by, targets_by}
use Rattle.move_slots.specs.Steps as slots
use Rattle.move_slots.specs.Facades.{fronts_in}
use Rattle.move_slots.specs.SlotLaws.{tallied_members, Fronts, InLanes, written_fronts, Slotted, slots_written}
use Rattle.move_freedom.specs.Aside.{CanFill, CanSetAside}

fronts_long : (area : List ℕ) (from stride r : ℕ) (counts : List ℕ) (e : ℕ) → length (fronts_in area from stride r counts e) ≡ e
unfolding fronts_in
fronts_long area from stride r counts e = tab-length _ e

module _ {load : Load} {n : ℕ} {nodes area sources targets : List ℕ} (can : CanFill load n nodes area sources targets) where
  abbrev registered : ℕ
  registered = get_or area (n * n) 0

  -- a count for each registered set and the node behind them
  pub fill_tally : {counts : List ℕ} → length counts ≡ get_or area (n * n) 0 + 1 → slots.CanTally counts nodes
  fill_tally long = record {
    few = omega (arith, can.atoms, can.loadable.sizes.atoms);
    within = λ i b. omega (arith, long, can.inside i (omega (arith, can.atoms)));
  }

  -- what is counted are the nodes' atoms
  pub fill_members : {own : List ℕ} (rest : List ℕ) {m : ℕ} → m ≡ get_or area (n * n) 0 + 1 → own ≡ tab (atoms nodes (length nodes)) m → (x : ℕ) → x < get_or area (n * n) 0 + 1 → at (own ++ rest) x ≡ members load nodes x
  fill_members {own} rest {m} m-is t = tallied_members load nodes (registered + 1) rest (omega (arith, can.atoms)) all (ap (λ (v : List ℕ). v ++ rest) (t ∙ ap (tab (atoms nodes (length nodes))) m-is))
    where
      all : nodes ≡ take load.A nodes
      all = sym (ap (λ (k : ℕ). take k nodes) (sym can.atoms) ∙ take-length nodes)

  pub fill_many : {own : List ℕ} (rest : List ℕ) {m : ℕ} → m ≡ get_or area (n * n) 0 + 1 → own ≡ tab (atoms nodes (length nodes)) m → length (take (get_or area (n * n) 0) (own ++ rest)) ≡ get_or area (n * n) 0
  fill_many {own} rest {m} m-is t =
      let long : length own ≡ registered + 1 = ap length t ∙ tab-length _ m ∙ m-is in
      length-take-le registered (own ++ rest) (omega (arith, length-append own rest))

  module _ {r : ℕ} (counts : List ℕ) (many : r ≡ get_or area (n * n) 0) (told : (x : ℕ) → x < get_or area (n * n) 0 → at counts x ≡ members load nodes x) where
    in_lanes : InLanes load nodes (sets_in n area) area (n * n + 24) n r counts
    in_lanes = record {
      many = many ∙ sym (sets-length n area);
      set_at = λ x b. ap (λ (i : ℕ). lanes area i n) (omega arith) ∙ sym (sets-at n area x (omega (arith, sets-length n area)));
      count_at = λ x b. told x (omega (arith, sets-length n area));
    }

    module _ {facade : List ℕ} (more : List ℕ) {e : ℕ} (bits : e ≡ load.E) (f : facade ≡ fronts_in area (n * n + 24) n r counts e) where
      fronts_are : Fronts load nodes (sets_in n area) (facade ++ more)
      fronts_are = written_fronts more in_lanes (ap (λ (v : List ℕ). v ++ more) (f ∙ ap (fronts_in area (n * n + 24) n r counts) bits))

      pub fill_slots_can : slots.CanSlots load nodes (facade ++ more) sources targets
      fill_slots_can = record {
        order = can.loadable.order;
        starts_long = omega (arith, can.loadable.sizes.starts);
        dependencies_long = omega (arith, can.loadable.sizes.dependencies);
        hosts_long = omega (arith, can.loadable.sizes.hosts);
        nodes_long = omega (arith, can.atoms);
        facade_long = omega (arith, bits, ap length f, length-append facade more, fronts_long area (n * n + 24) n r counts e);
        room = can.sources_long;
        room_target = can.targets_long;
      }

      pub fill_done : {sources' targets' : List ℕ} → sources' ≡ patch 0 (sources_by load nodes (facade ++ more)) sources → targets' ≡ patch 0 (targets_by load nodes (facade ++ more)) targets
          → Slotted load nodes (sets_in n area) sources' targets'
      fill_done p q = slots_written sources targets fronts_are can.sources_long can.targets_long p q

-- numbers copied to the front of a list, and one of them set
pub placed-part : (area : List ℕ) (from a atom z : ℕ) (moved : List ℕ) {l : List ℕ} → a ≤ length moved → atom < a → l ≡ patch 0 (part from a area) moved → part 0 a (set l atom z) ≡ set (part from a area) atom z
placed-part area from a atom z moved {l} room there e =
    ext_get_or 0 (part 0 a (set l atom z)) (set (part from a area) atom z) (part_long 0 a (set l atom z) ∙ sym (length-set (part from a area) atom z ∙ part_long from a area))
    (λ i h. let b : i < a = omega (arith, part_long 0 a (set l atom z)) in part_at 0 a (set l atom z) i b ∙ ap (λ k. get_or (set l atom z) k 0) (zero-add i) ∙ go i b (ℕ_discrete i atom))
  where
    long : length l ≡ length moved
    long = ap length e ∙ patch_long 0 (part from a area) moved

    go : (i : ℕ) → i < a → Dec (i ≡ atom) → get_or (set l atom z) i 0 ≡ get_or (set (part from a area) atom z) i 0
    go i b (yes q) = rw (q, get_or-set_same l atom z 0 (omega (arith, room, there, long)), get_or-set_same (part from a area) atom z 0 (omega (arith, there, part_long from a area))) refl
    go i b (no q) =
        get_or-set_other l atom i z 0 q ∙ ap (λ (u : List ℕ). get_or u i 0) e ∙ ap (λ k. get_or (patch 0 (part from a area) moved) k 0) (sym (zero-add i))
        ∙ patch_in 0 (part from a area) moved i (omega (arith, part_long from a area)) (omega (arith, room)) ∙ sym (get_or-set_other (part from a area) atom i z 0 q)

-- the copied nodes, with the atom at the node behind all sets
module _ {load : Load} {n : ℕ} {area : List ℕ} {atom : ℕ} {sources targets : List ℕ} (can : CanSetAside load n area atom sources targets) where
  pub copied_nodes : take load.A (drop (atom_at n) area) ≡ nodes_in load n area
  copied_nodes =
      let q : atom_at n + load.A - atom_at n ≡ load.A = omega arith in
      subst (λ k. take k (drop (atom_at n) area) ≡ part (atom_at n) k area) q (mid_part (atom_at n) (atom_at n + load.A) area (omega arith) (omega (arith, can.loadable.sizes.area)))

  -- the first A of a longer list
  aside-nodes : (moved : List ℕ) → length moved ≡ 512 → part 0 load.A moved ≡ set (nodes_in load n area) atom (get_or area (n * n) 0) → take (load.A - 0) moved ≡ set (nodes_in load n area) atom (get_or area (n * n) 0)
  aside-nodes moved long e =
      let z : load.A - 0 ≡ load.A = omega arith in
      mid_part 0 load.A moved (omega arith) (omega (arith, can.loadable.sizes.atoms)) ∙ ap (λ k. part 0 k moved) z ∙ e

  nodes_long : length (nodes_in load n area) ≡ load.A
  nodes_long = part_long (atom_at n) load.A area

  pub aside_can : {nodes : List ℕ} → nodes ≡ set (nodes_in load n area) atom (get_or area (n * n) 0) → CanFill load n nodes area sources targets
  aside_can e =
      rw e
      (record {
        loadable = can.loadable;
        few = can.few;
        atoms = length-set (nodes_in load n area) atom (get_or area (n * n) 0) ∙ nodes_long;
        inside = λ i b. go i b (ℕ_discrete i atom);
        sources_long = can.sources_long;
        targets_long = can.targets_long;
      })
    where
      go : (i : ℕ) → i < load.A → Dec (i ≡ atom) → at (set (nodes_in load n area) atom (get_or area (n * n) 0)) i ≤ get_or area (n * n) 0
      go i b (yes q) = rw (q, get_or-set_same (nodes_in load n area) atom (get_or area (n * n) 0) 0 (omega (arith, nodes_long, can.there))) (omega arith)
      go i b (no q) = rw (get_or-set_other (nodes_in load n area) atom i (get_or area (n * n) 0) 0 q) (omega (arith, can.nodes i b))

  pub aside-done : {nodes s t : List ℕ} → nodes ≡ set (nodes_in load n area) atom (get_or area (n * n) 0) → Slotted load nodes (sets_in n area) s t
      → Slotted load (set (nodes_in load n area) atom (get_or area (n * n) 0)) (sets_in n area) s t
  aside-done e f = rw e at f
