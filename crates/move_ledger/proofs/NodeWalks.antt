-- Theorems on the definitions of specs/NodeWalks: they stand here, so that the crate can be read with a definition changed. Assumes nothing.
use Prim.Native.Nat.{ℕ, ◌+◌, ◌^◌, ◌≤◌, ◌<◌}
use native.Mathlib.Omega.{arith}
use Rattle.std.proofs.Math.Decide.{ℕ_discrete, dec_lt}
use Rattle.std.specs.Prelude.{◌≡◌, refl, true, false, ◌&&◌, List, eqb}
use Rattle.std.proofs.Math.Path.{sym, ap₂, subst}
use Rattle.std.proofs.Common.{ap, ◌∙◌, true≢false}
use Rattle.std.proofs.Math.Dec.{ltb}
use Rattle.std.proofs.Math.ListN.{length}
use borrow.Author.Tests.{lt-ltb, eq-eqb, ne_eqb}
use Rattle.graphs.specs.Bools.{and_both, fails, alike}
use Rattle.graphs.specs.Count.{count_ext, count_add}
use Rattle.graphs.specs.Lists.{has, has-place, below, has-below}
use Rattle.graphs.specs.Slots.{same, slot, slot_edge, Ends}
use Rattle.graphs.specs.Slots as slots
use Rattle.graphs.specs.SlotLaws.{same-yes, same_ends, mult_self}
use Rattle.graphs.specs.Walk.{via, cyclic, only}
use Rattle.graphs.specs.Walks.{via-lists, cyclic-lists, only-lists}
use Rattle.graphs.specs.Relabel.{Named, via-named, cyclic-named, only-named}
use Rattle.move_ledger.specs.Graph.{Load, at, owner, lies, occupied, entry, facade, mult, edge}
use Rattle.move_ledger.specs.GraphLaws.{lies_atom, lies-set, lies_in, entry-lies, lies-entry, facade_faces, faces_facade}
use Rattle.move_ledger.proofs.GraphLaws.{edge-source, edge-target}
use Rattle.move_ledger.specs.LoadLaws.{InOrder}
use Rattle.move_ledger.specs.Nodes.{placed, Placing, sources, targets, node_edge, node_mult}
use Rattle.move_ledger.specs.NodeLaws.{placed-length, placed_at, members-nodes, source-entry, target-entry, Facing, facing, blank, hostless, slot_facing}
use Rattle.move_ledger.specs.NodeWalks.{edge-inside, nodes_hold, seen}
use Rattle.move_ledger.specs.NodeWalks as nodeWalks_here

module _ {load : Load} {nodes sets : List ℕ} (o : InOrder load) (p : Placing load nodes sets) where
  at-placed : (i : ℕ) → i < load.A → at (placed nodes sets) i ≡ at sets (at nodes i)
  at-placed i l = placed_at nodes sets i (omega (arith, p.atoms))

  -- atom i lies in the set of node x exactly if x is its node
  lies_node : (i x : ℕ) → i < load.A → at nodes i ≡ x → lies load (placed nodes sets) i (at sets x) ≡ true
  lies_node i x l e = lies_in load (placed nodes sets) (at sets x) i l (at-placed i l ∙ ap (at sets) e)

  node_lies : (i x : ℕ) → x < length sets → lies load (placed nodes sets) i (at sets x) ≡ true → at nodes i ≡ x
  node_lies i x b h =
      let l = lies_atom load (placed nodes sets) (at sets x) i h in
      p.distinct _ _ (p.inside i l) b (sym (at-placed i l) ∙ lies-set load (placed nodes sets) (at sets x) i h)

  module _ (x y : ℕ) (bx : x < length sets) (by : y < length sets) (d : x ≡ y → ⊥) where
    at_entry : (k : ℕ) → k < load.D → slot (sources load nodes sets) (targets load nodes sets) x y k ≡ entry load (placed nodes sets) (at sets x) (at sets y) k
    at_entry k l = rw (source-entry load nodes sets k l, target-entry load nodes sets k l) (alike _ _ right left)
      where
        right : same (at nodes (owner load k)) (at nodes (at load.dependencies k)) x y ≡ true → entry load (placed nodes sets) (at sets x) (at sets y) k ≡ true
        right h =
            let r = same_ends _ _ x y h in
            lies-entry load (placed nodes sets) _ _ k (lies_node _ x (o.owner_atom k l) r.0) (lies_node _ y (o.dependency_atom k l) r.1)

        left : entry load (placed nodes sets) (at sets x) (at sets y) k ≡ true → same (at nodes (owner load k)) (at nodes (at load.dependencies k)) x y ≡ true
        left h = let r = entry-lies load (placed nodes sets) _ _ k h in same-yes _ _ x y d (node_lies _ x bx r.0) (node_lies _ y by r.1)

    at-facade : (e : ℕ) → e < load.E → slot (sources load nodes sets) (targets load nodes sets) x y (load.D + e) ≡ facade load (placed nodes sets) (at sets x) (at sets y) e
    at-facade e l = go _ _ (slot_facing load nodes sets e l p.few)
      where
        here : (z : ℕ) → z < length sets → occupied load nodes z ≡ occupied load (placed nodes sets) (at sets z)
        here z b = ap (ltb 0) (members-nodes p z b)

        empty : (s t : ℕ) → s ≡ 0 → t ≡ 0 → (facade load (placed nodes sets) (at sets x) (at sets y) e ≡ true → ⊥) → same s t x y ≡ facade load (placed nodes sets) (at sets x) (at sets y) e
        empty s t u v g = fails _ (λ h. let r = same_ends s t x y h in r.2 (sym r.0 ∙ u ∙ sym v ∙ r.1)) ∙ sym (fails _ g)

        go : (s t : ℕ) → Facing load nodes sets e s t → same s t x y ≡ facade load (placed nodes sets) (at sets x) (at sets y) e
        go s t (facing b q u r z) = alike _ _ right left
          where
            right : same s t x y ≡ true → facade load (placed nodes sets) (at sets x) (at sets y) e ≡ true
            right h =
                let w = same_ends s t x y h in
                faces_facade (record {
                  bit = ap (at sets) (sym w.0) ∙ q;
                  here = subst (λ i. occupied load (placed nodes sets) (at sets i) ≡ true) w.0 (sym (here s b) ∙ u);
                  hosted = r;
                  there = lies_node _ y (o.host_atom e l r) (sym z ∙ w.1);
                })

            left : facade load (placed nodes sets) (at sets x) (at sets y) e ≡ true → same s t x y ≡ true
            left h =
                let w = facade_faces load (placed nodes sets) _ _ e h in
                same-yes s t x y d (p.distinct s x b bx (q ∙ sym w.bit)) (z ∙ node_lies _ y by w.there)
        go s t (blank u v r g) =
            empty s t u v (λ h.
            let w = facade_faces load (placed nodes sets) _ _ e h in
            true≢false (sym (and_both (eqb (at sets x) (2 ^ e)) _ (eq-eqb _ _ w.bit) (here x bx ∙ w.here)) ∙ g x bx))
        go s t (hostless u v r) = empty s t u v (λ h. (facade_faces load (placed nodes sets) _ _ e h).hosted r)

    differ : node_mult load nodes sets x y ≡ mult load (placed nodes sets) (at sets x) (at sets y)
    unfolding slots.mult mult
    differ =
        rw (ne_eqb (at sets x) (at sets y) (λ q. d (p.distinct x y bx by q)))
        (count_add (slot (sources load nodes sets) (targets load nodes sets) x y) load.D load.E ∙ ap₂ ◌+◌ (count_ext _ _ load.D at_entry) (count_ext _ _ load.E at-facade))

  -- the multiplicity of the slots is that over the sets
  pub mult-nodes : (x y : ℕ) → x < length sets → y < length sets → node_mult load nodes sets x y ≡ mult load (placed nodes sets) (at sets x) (at sets y)
  unfolding mult
  mult-nodes x y bx by = go (ℕ_discrete x y)
    where
      go : Dec (x ≡ y) → node_mult load nodes sets x y ≡ mult load (placed nodes sets) (at sets x) (at sets y)
      go (yes q) = rw (q, eq-eqb (at sets y) (at sets y) refl) (mult_self _ _ _ y)
      go (no q) = differ x y bx by q

  -- the sets name the nodes
  named : Named (node_edge load nodes sets) (edge load (placed nodes sets)) (length sets) (at sets)
  unfolding slot_edge edge
  named =
      record {
        injective = p.distinct;
        source = λ x y h. ((nodeWalks_here.edge-inside o p) x y h).0;
        over = λ x y h. let b = (nodeWalks_here.edge-inside o p) x y h in subst (λ n. ltb 0 n ≡ true) (mult-nodes x y b.0 b.1) h;
        named = λ X Y h. node X (edge-source load (placed nodes sets) long X Y h);
        back = λ x Y b h.
            let y = node Y (edge-target load (placed nodes sets) long (at sets x) Y h) in
            (y.0, y.1, y.2, subst (λ n. ltb 0 n ≡ true) (sym (mult-nodes x y.0 b y.1)) (subst (λ Z. ltb 0 (mult load (placed nodes sets) (at sets x) Z) ≡ true) (sym y.2) h));
      }
    where
      long : length (placed nodes sets) ≡ load.A
      long = placed-length nodes sets ∙ p.atoms

      node : (X : ℕ) → has X (placed nodes sets) ≡ true → (x : ℕ) × (x < length sets) × (at sets x ≡ X)
      node X h =
          let r = has-place X (placed nodes sets) h in
          let i : r.0 < load.A = omega (arith, r.1, long) in
          (at nodes r.0, p.inside r.0 i, sym (at-placed r.0 i) ∙ r.2)

  module _ (n : ℕ) (wide : length sets ≤ n) where
    few_hold : (x y : ℕ) → node_edge load nodes sets x y ≡ true → has x (below (length sets)) ≡ true
    few_hold x y h = has-below x (length sets) ((nodeWalks_here.edge-inside o p) x y h).0

    sets_hold : (X Y : ℕ) → edge load (placed nodes sets) X Y ≡ true → has X (placed nodes sets) ≡ true
    sets_hold = edge-source load (placed nodes sets) (placed-length nodes sets ∙ p.atoms)

    pub cyclic-nodes : cyclic (node_edge load nodes sets) (below n) ≡ cyclic (edge load (placed nodes sets)) (placed nodes sets)
    cyclic-nodes = cyclic-lists _ (below n) (below (length sets)) (nodeWalks_here.nodes_hold o p n wide) few_hold ∙ cyclic-named named (placed nodes sets) sets_hold

    pub via-nodes : (x y : ℕ) → x < length sets → y < length sets
        → via (node_edge load nodes sets) (below n) x y ≡ via (edge load (placed nodes sets)) (placed nodes sets) (at sets x) (at sets y)
    via-nodes x y bx by = via-lists _ (below n) (below (length sets)) (nodeWalks_here.nodes_hold o p n wide) few_hold x y ∙ via-named named (placed nodes sets) sets_hold x y bx by

    pub only-nodes : (x : ℕ) → x < length sets
        → only (node_edge load nodes sets) (below n) x ≡ only (edge load (placed nodes sets)) (placed nodes sets) (at sets x)
    only-nodes x b = only-lists _ (below n) (below (length sets)) (nodeWalks_here.nodes_hold o p n wide) few_hold x ∙ only-named named (placed nodes sets) sets_hold x b

module _ {load : Load} {nodes sets : List ℕ} (p : Placing load nodes sets) where
  placed-seen : (X : ℕ) → has X (placed nodes sets) ≡ true → has X sets ≡ true
  placed-seen X h =
      let r = has-place X (placed nodes sets) h in
      (nodeWalks_here.seen p) X r.0 (omega (arith, r.1, placed-length nodes sets, p.atoms)) r.2

  pub mult_unseen : (X Y : ℕ) → (has X sets && has Y sets) ≡ false → mult load (placed nodes sets) X Y ≡ 0
  unfolding edge
  mult_unseen X Y h = go (dec_lt 0 (mult load (placed nodes sets) X Y))
    where
      long : length (placed nodes sets) ≡ load.A
      long = placed-length nodes sets ∙ p.atoms

      go : Dec (0 < mult load (placed nodes sets) X Y) → mult load (placed nodes sets) X Y ≡ 0
      go (yes l) =
          let e = lt-ltb 0 _ l in
          absurd (true≢false (sym (and_both (has X sets) _ (placed-seen X (edge-source load (placed nodes sets) long X Y e)) (placed-seen Y (edge-target load (placed nodes sets) long X Y e))) ∙ h))
      go (no l) = omega arith
