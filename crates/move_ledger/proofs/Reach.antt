-- Theorems on the definitions of specs/Reach: they stand here, so that the crate can be read with a definition changed. Assumes nothing.
use Prim.Native.Nat.{ℕ, ◌≤◌, ◌<◌}
use native.Mathlib.Omega.{arith}
use Rattle.std.proofs.Math.Decide.{dec_lt}
use Rattle.std.specs.Prelude.{◌≡◌, Bool, cond, ◌&&◌, List, ltb, length}
use Rattle.std.proofs.Math.Path.{refl, sym, ap}
use Rattle.std.proofs.Common.{subst, ◌∙◌}
use Rattle.std.proofs.Math.Bool.{true, false, not}
use Rattle.std.proofs.Math.Dec.{eqb}
use borrow.Author.Tests.{ne_eqb}
use Rattle.graphs.specs.Bools.{fails}
use Rattle.graphs.specs.Count.{ind, count, count-all_no}
use Rattle.graphs.specs.Total.{total-same, count-total}
use Rattle.graphs.specs.Lists.{has, below, has-place}
use Rattle.graphs.specs.Walk.{Walk, one, more, via, cyclic}
use Rattle.graphs.specs.Walks.{sound, walk_to, acyclic_walk}
use Rattle.move_ledger.specs.Graph.{Load, at, members, occupied, edge, reach}
use Rattle.move_ledger.specs.GraphLaws.{occupy}
use Rattle.move_ledger.proofs.GraphLaws.{edge-source, edge-target}
use Rattle.move_ledger.specs.LoadLaws.{InOrder}
use Rattle.move_ledger.specs.Nodes.{Placing, node_edge}
use Rattle.move_ledger.specs.NodeLaws.{placed-length, members-nodes}
use Rattle.move_ledger.specs.NodeWalks.{edge-inside}
use Rattle.move_ledger.proofs.NodeWalks.{via-nodes}
use Rattle.move_ledger.specs.Chunks.{chunk_sum}
use Rattle.move_ledger.specs.Reach.{place}
use Rattle.move_ledger.specs.Reach as reach_here

module _ {load : Load} {nodes sets : List ℕ} (o : InOrder load) (p : Placing load nodes sets) (n : ℕ) (few : length sets ≤ n) where
  long : length (reach_here.place o p n few) ≡ load.A
  long = placed-length nodes sets ∙ p.atoms

  ends : {X Y : ℕ} → Walk (edge load (reach_here.place o p n few)) X Y → has Y (reach_here.place o p n few) ≡ true
  ends (one {x} {y} h) = edge-target load (reach_here.place o p n few) long x y h
  ends (more h w) = ends w

  pub reach-nodes : (y : ℕ) → y < length sets → cyclic (edge load (reach_here.place o p n few)) (reach_here.place o p n few) ≡ false → reach load (reach_here.place o p n few) (at sets y) ≡ count (via (node_edge load nodes sets) (below n) y) n
  unfolding reach members
  reach-nodes y hy acyclic =
      chunk_sum p (λ X. ind (via (edge load (reach_here.place o p n few)) (reach_here.place o p n few) (at sets y) X && not (eqb (at sets y) X))) n few
      ∙ total-same _ _ n (λ x b. by x (dec_lt x (length sets)))
      ∙ sym (count-total (via (node_edge load nodes sets) (below n) y) n)
    where
      T : ℕ
      T = at sets y

      nought : (t : Bool) → ◌≡◌ {A = ℕ} (cond t 0 0) 0
      nought true = refl
      nought false = refl

      out : (x : ℕ) → (x < length sets → ⊥) → occupied load nodes x ≡ false
      out x h = ap (ltb 0) (count-all_no (λ i. eqb (at nodes i) x) load.A (λ i c. ne_eqb (at nodes i) x (λ e. h (subst (λ k. k < length sets) e (p.inside i c)))))

      reached : (x : ℕ) → x < length sets → via (edge load (reach_here.place o p n few)) (reach_here.place o p n few) T (at sets x) ≡ true → occupied load nodes x ≡ true
      reached x b h =
          let m : has (at sets x) (reach_here.place o p n few) ≡ true = ends (sound (edge load (reach_here.place o p n few)) (reach_here.place o p n few) T (at sets x) h) in
          let r = has-place (at sets x) (reach_here.place o p n few) m in
          ap (ltb 0) (members-nodes p x b) ∙ occupy load (reach_here.place o p n few) (at sets x) r.0 (omega (arith, r.1, long)) r.2

      by : (x : ℕ) → Dec (x < length sets)
          → cond (occupied load nodes x) (ind (via (edge load (reach_here.place o p n few)) (reach_here.place o p n few) T (at sets x) && not (eqb T (at sets x)))) 0 ≡ ind (via (node_edge load nodes sets) (below n) y x)
      by x (yes b) = rw (via-nodes o p n few y x hy b) (go (via (edge load (reach_here.place o p n few)) (reach_here.place o p n few) T (at sets x)) refl)
        where
          go : (t : Bool) → via (edge load (reach_here.place o p n few)) (reach_here.place o p n few) T (at sets x) ≡ t → cond (occupied load nodes x) (ind (t && not (eqb T (at sets x)))) 0 ≡ ind t
          go true h = rw (reached x b h, ne_eqb T (at sets x) (λ e. (acyclic_walk (edge load (reach_here.place o p n few)) (reach_here.place o p n few) (edge-source load (reach_here.place o p n few) long)).0 acyclic T (subst (Walk (edge load (reach_here.place o p n few)) T) (sym e) (sound (edge load (reach_here.place o p n few)) (reach_here.place o p n few) T (at sets x) h)))) refl
          go false h = nought (occupied load nodes x)
      by x (no b) = rw (out x b) (ap ind (sym (fails _ (λ h. b (walk_to (λ i j k. (edge-inside o p i j k).1) (sound (node_edge load nodes sets) (below n) y x h))))))
