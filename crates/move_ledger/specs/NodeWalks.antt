-- For the code: the slots over node numbers have the multiplicities, walks and cycles of the sets. Assumes nothing.
use Prim.Native.Nat.{ℕ, ◌+◌, ◌-◌, ◌≤◌, ◌<◌}
use native.Mathlib.Omega.{arith}
use Rattle.std.proofs.Math.Decide.{dec_lt}
use Rattle.std.specs.Prelude.{◌≡◌, ◌⊎◌, true, false, List, get_or}
use Rattle.std.proofs.Math.Path.{sym, subst}
use Rattle.std.proofs.Common.{◌∙◌, inl, inr, true≢false}
use Rattle.std.proofs.Math.Logic.{⊎_elim}
use Rattle.std.proofs.Math.ListN.{length}
use borrow.Author.Tests.{ltb-true, lt-ltb}
use Rattle.graphs.specs.Bools.{fails}
use Rattle.graphs.specs.Lists.{has, has-at, below, has-below}
use Rattle.graphs.specs.Slots.{slot_edge, Ends}
use Rattle.graphs.specs.SlotLaws.{edge-slot}
use Rattle.graphs.specs.Walk.{only}
use Rattle.graphs.specs.Walks.{only_walk, walk_from}
use Rattle.move_ledger.specs.Graph.{Load, none, at, members}
use Rattle.move_ledger.specs.GraphLaws.{occupied-by}
use Rattle.move_ledger.specs.LoadLaws.{InOrder}
use Rattle.move_ledger.specs.Nodes.{placed, Placing, sources, targets, node_edge, node_mult}
use Rattle.move_ledger.specs.NodeLaws.{placed_at, source-entry, target-entry, Facing, facing, blank, hostless, slot_facing}

module _ {load : Load} {nodes sets : List ℕ} (o : InOrder load) (p : Placing load nodes sets) where
  -- the host's node
  host_inside : (e : ℕ) → e < load.E → (at load.hosts e ≡ none → ⊥) → at nodes (at load.hosts e) < length sets
  host_inside e l q = p.inside _ (o.host_atom e l q)

  -- a slot leads from a registered node to one, or its ends are 0
  slot-inside : (k : ℕ) → k < load.D + load.E
      → ((get_or (sources load nodes sets) k 0 < length sets) × (get_or (targets load nodes sets) k 0 < length sets))
      ⊎ ((get_or (sources load nodes sets) k 0 ≡ 0) × (get_or (targets load nodes sets) k 0 ≡ 0))
  slot-inside k l = pick (dec_lt k load.D)
    where
      face : (e : ℕ) → e < load.E → (s t : ℕ) → Facing load nodes sets e s t → ((s < length sets) × (t < length sets)) ⊎ ((s ≡ 0) × (t ≡ 0))
      face e m s t (facing b q u r z) = inl (b, rw z (host_inside e m r))
      face e m s t (blank u v r g) = inr (u, v)
      face e m s t (hostless u v r) = inr (u, v)

      late : (e : ℕ) → k ≡ load.D + e
          → ((get_or (sources load nodes sets) k 0 < length sets) × (get_or (targets load nodes sets) k 0 < length sets))
          ⊎ ((get_or (sources load nodes sets) k 0 ≡ 0) × (get_or (targets load nodes sets) k 0 ≡ 0))
      late e z = let m : e < load.E = omega arith in rw z (face e m _ _ (slot_facing load nodes sets e m p.few))

      pick : Dec (k < load.D)
          → ((get_or (sources load nodes sets) k 0 < length sets) × (get_or (targets load nodes sets) k 0 < length sets))
          ⊎ ((get_or (sources load nodes sets) k 0 ≡ 0) × (get_or (targets load nodes sets) k 0 ≡ 0))
      pick (yes m) =
          rw (source-entry load nodes sets k m, target-entry load nodes sets k m) (inl (p.inside _ (o.owner_atom k m), p.inside _ (o.dependency_atom k m)))
      pick (no m) = late (k - load.D) (omega arith)

  -- so every slot's ends are below n, where n is at least the number of registered sets and not 0
  pub ends-nodes : (n : ℕ) → length sets ≤ n → 0 < n → Ends (sources load nodes sets) (targets load nodes sets) n (load.D + load.E)
  ends-nodes n b z =
      record {
        source = λ k l. ⊎_elim (λ h. omega (arith, h.0)) (λ h. omega (arith, h.0)) (slot-inside k l);
        target = λ k l. ⊎_elim (λ h. omega (arith, h.1)) (λ h. omega (arith, h.1)) (slot-inside k l);
      }

  -- an edge of the slots leads from a registered node to one
  pub edge-inside : (x y : ℕ) → node_edge load nodes sets x y ≡ true → (x < length sets) × (y < length sets)
  unfolding slot_edge
  edge-inside x y h =
      let r = edge-slot _ _ _ x y (ltb-true 0 _ h) in
      ⊎_elim (λ b. (rw (← r.2) b.0, rw (← r.3) b.1)) (λ z. absurd (r.4 (sym r.2 ∙ z.0 ∙ sym z.1 ∙ r.3))) (slot-inside r.0 r.1)

  -- elsewhere there is none
  pub mult-outside : (x y : ℕ) → (x < length sets → y < length sets → ⊥) → node_mult load nodes sets x y ≡ 0
  unfolding slot_edge
  mult-outside x y d = go (dec_lt 0 (node_mult load nodes sets x y))
    where
      go : Dec (0 < node_mult load nodes sets x y) → node_mult load nodes sets x y ≡ 0
      go (yes h) = let r = edge-inside x y (lt-ltb 0 _ h) in absurd (d r.0 r.1)
      go (no h) = omega arith

  -- so the graph's tests over nodes below n, at least the number of registered sets, are those over the sets
  module _ (n : ℕ) (wide : length sets ≤ n) where
    pub nodes_hold : (x y : ℕ) → node_edge load nodes sets x y ≡ true → has x (below n) ≡ true
    nodes_hold x y h = has-below x n (omega (arith, (edge-inside x y h).0))

    -- a node that has no set is in no component
    pub only-outside : (x : ℕ) → length sets ≤ x → only (node_edge load nodes sets) (below n) x ≡ false
    only-outside x b = fails _ (λ h. omega (arith, walk_from (λ x y q. (edge-inside x y q).0) ((only_walk _ (below n) nodes_hold x).0 h).0))

-- a set that isn't registered has no atom and no edge
module _ {load : Load} {nodes sets : List ℕ} (p : Placing load nodes sets) where
  pub seen : (X i : ℕ) → i < load.A → at (placed nodes sets) i ≡ X → has X sets ≡ true
  seen X i l e =
      subst (λ Z. has Z sets ≡ true) (sym (placed_at nodes sets i (omega (arith, p.atoms))) ∙ e) (has-at sets (at nodes i) (p.inside i l))

  pub members_unseen : (X : ℕ) → has X sets ≡ false → members load (placed nodes sets) X ≡ 0
  members_unseen X h = go (dec_lt 0 (members load (placed nodes sets) X))
    where
      go : Dec (0 < members load (placed nodes sets) X) → members load (placed nodes sets) X ≡ 0
      go (yes l) = let r = occupied-by load (placed nodes sets) X (lt-ltb 0 _ l) in absurd (true≢false (sym (seen X r.0 r.1 r.2) ∙ h))
      go (no l) = omega arith
