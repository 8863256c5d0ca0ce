-- The first m slots of two lists as the graph of a placement, where m is 0 if there is no node: a slot's ends are nodes then. Assumes nothing.
use Rattle.std.specs.Prelude.{◌≡◌, refl, Bool, false, cond, List, ℕ, ◌+◌, ◌*◌, ◌≤◌, ◌<◌, eqb, length}
use Rattle.std.proofs.Common.{sym, ap, subst, ◌∙◌, arith, eq-eqb, ne_eqb}
use Rattle.std.proofs.Math.Decide.{ℕ_discrete}
use Rattle.graphs.specs.Lists.{any, below}
use Rattle.graphs.specs.Slots.{flat, slot_edge, Ends}
use Rattle.graphs.specs.Walk.{cyclic}
use Rattle.graphs.specs.Square.{square_some}
use Rattle.move_ledger.specs.Graph.{Load}
use Rattle.move_ledger.specs.LoadLaws.{InOrder}
use Rattle.move_ledger.specs.Nodes.{Placing, sources, targets, node_edge}
use Rattle.move_ledger.specs.NodeWalks.{ends-nodes}
use Rattle.move_slots.specs.SlotLaws.{Slotted, slotted_edge, slotted_ends, slotted_flat}

-- how many slots there are
abbrev pub slot_count : ℕ → ℕ → ℕ → ℕ
slot_count n d e = cond (eqb n 0) 0 (d + e)

no_nodes : (edge : ℕ → ℕ → Bool) → cyclic edge (below 0) ≡ false
unfolding cyclic any below
no_nodes edge = refl

-- the first m slots of s and t are those of a placement on n nodes
pub record Counted (load : Load) (nodes sets s t : List ℕ) (n m : ℕ) : Type 0 where
  pub order : InOrder load
  pub placing : Placing load nodes sets
  pub few : length sets ≤ n
  pub slots : Slotted load nodes sets s t
  pub many : m ≡ slot_count n load.D load.E

module _ {load : Load} {nodes sets s t : List ℕ} {n m : ℕ} (g : Counted load nodes sets s t n m) where
  some_nodes : 0 < n → m ≡ load.D + load.E
  some_nodes b = g.many ∙ rw (ne_eqb n 0 (omega arith)) refl

  pub counted-ends : Ends s t n m
  counted-ends = go (ℕ_discrete n 0)
    where
      go : Dec (n ≡ 0) → Ends s t n m
      go (yes z) =
          let q : m ≡ 0 = g.many ∙ rw (eq-eqb n 0 z) refl in
          record { source = λ k h. absurd (omega arith); target = λ k h. absurd (omega arith) }
      go (no z) =
          let y : 0 < n = omega arith in
          subst (Ends s t n) (sym (some_nodes y)) (slotted_ends g.slots (ends-nodes g.order g.placing n g.few y))

  pub counted_le : m ≤ load.D + load.E
  counted_le = go (ℕ_discrete n 0)
    where
      go : Dec (n ≡ 0) → m ≤ load.D + load.E
      go (yes z) = let q : m ≡ 0 = g.many ∙ rw (eq-eqb n 0 z) refl in omega arith
      go (no z) = omega (arith, some_nodes (omega arith))

  pub counted-edge : 0 < n → slot_edge s t m ≡ node_edge load nodes sets
  counted-edge b = ap (slot_edge s t) (some_nodes b) ∙ slotted_edge g.slots

  pub counted-flat : (i : ℕ) → i < n * n → flat s t n m i ≡ flat (sources load nodes sets) (targets load nodes sets) n (load.D + load.E) i
  counted-flat i b = rw (some_nodes (square_some n i b)) (slotted_flat g.slots n i)

  pub counted-cyclic : cyclic (slot_edge s t m) (below n) ≡ cyclic (node_edge load nodes sets) (below n)
  counted-cyclic = go (ℕ_discrete n 0)
    where
      go : Dec (n ≡ 0) → cyclic (slot_edge s t m) (below n) ≡ cyclic (node_edge load nodes sets) (below n)
      go (yes z) = rw z (no_nodes _ ∙ sym (no_nodes _))
      go (no z) = rw (counted-edge (omega arith)) refl
