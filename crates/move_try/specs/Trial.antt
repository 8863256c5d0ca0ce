-- The moved placement on trial: what is asked for it. Assumes nothing.
use Rattle.std.specs.Prelude.{◌≡◌, refl, true, List, ℕ, ◌+◌, ◌-◌, ◌*◌, ◌≤◌, ◌<◌, length, get_or, set, take}
use borrow.Rule.Slice.PartMut.{mid_of}
use Rattle.std.proofs.Common.{ap, ◌∙◌, arith, length-set, get_or-set_same, get_or-set_other}
use Rattle.std.proofs.Math.Decide.{ℕ_discrete}
use Rattle.layout.specs.Patch.{part, part_long}
use Rattle.layout.specs.Lent.{mid_part}
use Rattle.move_ledger.specs.Graph.{Load, at}
use Rattle.move_ledger.specs.LoadLaws.{Loadable}
use Rattle.move_area.specs.Bodies.{atom_at}
use Rattle.move_area.specs.Area.{sets_in}
use Rattle.move_area.specs.Checked.{nodes_in}
use Rattle.move_slots.specs.Filled.{CanFill, Filled}

-- the load passes the rows 1 to 6, each atom's node is registered, and so is the target
pub record CanTrial (load : Load) (n : ℕ) (area : List ℕ) (atom to : ℕ) (counts sources targets : List ℕ) : Type 0 where
  pub loadable : Loadable load n true (length area)
  pub few : get_or area (n * n) 0 ≤ n
  pub nodes : (i : ℕ) → i < load.A → at (nodes_in load n area) i < get_or area (n * n) 0
  pub there : atom < load.A
  pub node : to < get_or area (n * n) 0
  pub counts_long : n ≤ length counts
  pub sources_long : load.D + load.E ≤ length sources
  pub targets_long : load.D + load.E ≤ length targets

module _ {load : Load} {n : ℕ} {area : List ℕ} {atom to : ℕ} {counts sources targets : List ℕ} (can : CanTrial load n area atom to counts sources targets) where
  nodes_long : length (nodes_in load n area) ≡ load.A
  nodes_long = part_long (atom_at n) load.A area

  -- the atoms' nodes are copied, and one of them set
  pub moved-nodes : {copied : List ℕ} → copied ≡ mid_of (atom_at n) (atom_at n + load.A - atom_at n) area → set copied atom to ≡ set (nodes_in load n area) atom to
  moved-nodes e =
      let z : atom_at n + load.A - atom_at n ≡ load.A = omega arith in
      ap (λ (l : List ℕ). set l atom to) (e ∙ mid_part (atom_at n) (atom_at n + load.A) area (omega arith) (omega (arith, can.loadable.sizes.area)) ∙ ap (λ k. part (atom_at n) k area) z)

  -- a list of 512 numbers of which the first A are these
  pub fill_nodes : (moved : List ℕ) → length moved ≡ 512 → part 0 load.A moved ≡ set (nodes_in load n area) atom to → take (load.A - 0) moved ≡ set (nodes_in load n area) atom to
  fill_nodes moved long e =
      let z : load.A - 0 ≡ load.A = omega arith in
      mid_part 0 load.A moved (omega arith) (omega (arith, can.loadable.sizes.atoms)) ∙ ap (λ k. part 0 k moved) z ∙ e

  -- the moved placement's slots may be filled from any list of these nodes
  module _ {moved : List ℕ} (e : moved ≡ set (nodes_in load n area) atom to) where
    pub fill_can : CanFill load n moved area (get_or area (n * n) 0) counts sources targets
    fill_can =
        record {
          loadable = can.loadable;
          many = refl;
          few = can.few;
          atoms = omega (arith, ap length e, length-set (nodes_in load n area) atom to, nodes_long);
          inside = λ i b. rw e (go i b (ℕ_discrete i atom));
          counts_long = can.counts_long;
          sources_long = can.sources_long;
          targets_long = can.targets_long;
        }
      where
        go : (i : ℕ) → i < load.A → Dec (i ≡ atom) → at (set (nodes_in load n area) atom to) i < get_or area (n * n) 0
        go i b (yes q) = rw (q, get_or-set_same (nodes_in load n area) atom to 0 (omega (arith, nodes_long, can.there))) can.node
        go i b (no q) = rw (get_or-set_other (nodes_in load n area) atom i to 0 q) (can.nodes i b)

    pub fill_done : {c s t : List ℕ} → Filled load n moved (sets_in n area) c s t → Filled load n (set (nodes_in load n area) atom to) (sets_in n area) c s t
    fill_done f = rw e at f
