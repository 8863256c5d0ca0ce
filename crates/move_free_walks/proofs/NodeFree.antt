-- Theorems on the definitions of specs/NodeFree: they stand here, so that the crate can be read with a definition changed. Assumes nothing.
use Rattle.std.specs.Prelude.{ℕ, ◌<◌, ◌≡◌, ◌↔◌, Bool, not, ◌&&◌, List, eqb, ltb, length, set}
use Rattle.std.proofs.Common.{arith, sym, ap, subst, ◌∙◌, true≢false}
use Rattle.std.proofs.Math.Path.{refl}
use Rattle.std.proofs.Math.Bool.{true, false}
use Rattle.std.proofs.lemmas.Bool.{not-true}
use Rattle.graphs.specs.Bools.{Decides, same_decides, and_left, and_right, and_both, fails}
use Rattle.graphs.specs.Count.{count, count-all_no}
use Rattle.graphs.specs.Walk.{cyclic}
use Rattle.graphs.specs.Relabel.{Named}
use Rattle.move_ledger.specs.Graph.{Load, at, occupied, edge}
use Rattle.move_ledger.specs.LoadLaws.{InOrder}
use Rattle.move_ledger.specs.Nodes.{placed, Placing, node_edge}
use Rattle.move_ledger.specs.NodeLaws.{placed_at, placed-set, members-nodes}
use Rattle.move_ledger.specs.NodeWalks.{edge-inside}
use Rattle.move_ledger.specs.NodeMoves.{placing_set}
use Rattle.move_free_walks.specs.Joins.{Ahead, Behind, Fore, Aft, Free, Acyclic}
use Rattle.move_free_walks.specs.Alone.{Alone}
use Rattle.move_free_walks.specs.Free.{outs, ins, alone_in}
use Rattle.move_free_walks.proofs.Free.{rest_acyclic, moved-free, moved_own}
use Rattle.move_free_walks.specs.Renamed.{ahead-named, behind_named, out-named, in_named, acyclic_named, free-named, fore_named, aft_named}
use Rattle.move_free_walks.proofs.Present.{ahead_present, behind_present}
use Rattle.move_free_walks.specs.Counted.{meets, is_free, free_decides}
use Rattle.move_free_walks.specs.NodeFree.{nodes-named, Spare, aside, node_rest, node_out, node_in, Fine, long, Walked, counted, fine, counted_same}
use Rattle.move_free_walks.specs.NodeFree as nodeFree_here

module _ {load : Load} {nodes sets : List ℕ} (o : InOrder load) (p : Placing load nodes sets) (a z : ℕ) (s : Spare load nodes sets a z) where
  here : (i : ℕ) → i < load.A → at (placed nodes sets) i ≡ at sets (at nodes i)
  here i l = placed_at nodes sets i (omega (arith, p.atoms))

  alone : Alone load (set (placed nodes sets) a (at sets z)) a (at sets z)
  alone = alone_in load (placed nodes sets) a (at sets z) (nodeFree_here.long o p a z s) s.atom
      (λ i l d h. s.empty i l d (p.distinct (at nodes i) z (p.inside i l) s.within (sym (here i l) ∙ h))) s.no_bit

  aside_placing : Placing load (set nodes a z) sets
  aside_placing = placing_set p a z s.within

  named : Named (aside load nodes sets a z) (edge load (set (placed nodes sets) a (at sets z))) (length sets) (at sets)
  named = subst (λ q. Named (aside load nodes sets a z) (edge load q) (length sets) (at sets)) (placed-set nodes sets a z) (nodes-named o aside_placing)

  target : (x y : ℕ) → aside load nodes sets a z x y ≡ true → y < length sets
  target x y h = (edge-inside o aside_placing x y h).1

  set_other : (X : ℕ) → X < length sets → (X ≡ at nodes a → ⊥) → at sets X ≡ at (placed nodes sets) a → ⊥
  set_other X b d e = d (p.distinct X (at nodes a) b (p.inside a s.atom) (e ∙ here a s.atom))

  -- from an acyclic graph there is no cycle without the atom
  pub node_rest_acyclic : cyclic (edge load (placed nodes sets)) (placed nodes sets) ≡ false → Acyclic (node_rest load nodes sets a z)
  node_rest_acyclic free = (acyclic_named named target z s.within).1 (rest_acyclic load (placed nodes sets) a (at sets z) (nodeFree_here.long o p a z s) alone free)

  module _ (X : ℕ) (b : X < length sets) (d : X ≡ at nodes a → ⊥) where
    -- from an acyclic graph, the later steps of the two walks can go along the present edges
    pub node_fore : cyclic (edge load (placed nodes sets)) (placed nodes sets) ≡ false
        → Ahead (node_rest load nodes sets a z) (node_out load nodes sets a z) X ↔ Fore (node_edge load nodes sets) (node_rest load nodes sets a z) (node_out load nodes sets a z) X
    node_fore free =
        let f = ahead-named named target z s.within X b in
        let r = ahead_present load (placed nodes sets) a (at sets z) (nodeFree_here.long o p a z s) alone free (at sets X) (set_other X b d) in
        let g = fore_named named target z s.within (nodes-named o p) X b in
        (λ h. g.1 (r.0 (f.0 h)), λ h. f.1 (r.1 (g.0 h)))

    pub node_aft : cyclic (edge load (placed nodes sets)) (placed nodes sets) ≡ false
        → Behind (node_rest load nodes sets a z) (node_in load nodes sets a z) X ↔ Aft (node_edge load nodes sets) (node_rest load nodes sets a z) (node_in load nodes sets a z) X
    node_aft free =
        let f = behind_named named target z s.within X b in
        let r = behind_present load (placed nodes sets) a (at sets z) (nodeFree_here.long o p a z s) alone free (at sets X) (set_other X b d) in
        let g = aft_named named target z s.within (nodes-named o p) X b in
        (λ h. g.1 (r.0 (f.0 h)), λ h. f.1 (r.1 (g.0 h)))

  module _ (X : ℕ) (b : X < length sets) (u : occupied load nodes X ≡ true) (d : X ≡ at nodes a → ⊥) where
    set-occupied : occupied load (placed nodes sets) (at sets X) ≡ true
    set-occupied = sym (ap (ltb 0) (members-nodes p X b)) ∙ u

    -- of any graph, cyclic or not
    pub node_free : Fine load nodes sets a X ↔ (Acyclic (node_rest load nodes sets a z) × Free (node_rest load nodes sets a z) (node_out load nodes sets a z) (node_in load nodes sets a z) X)
    node_free =
        let r = moved-free load (placed nodes sets) a (at sets z) (nodeFree_here.long o p a z s) alone (at sets X) set-occupied (set_other X b d) in
        let f = acyclic_named named target z s.within in
        let g = free-named named target z s.within X b in
        (λ h. let k = r.0 h in (f.1 k.0, g.1 k.1), λ h. r.1 (f.0 h.0, g.0 h.1))

    -- from an acyclic graph
    pub node_own : cyclic (edge load (placed nodes sets)) (placed nodes sets) ≡ false → Fine load nodes sets a X
        ↔ (((node_out load nodes sets a z (at nodes a) ≡ true) × (node_in load nodes sets a z (at nodes a) ≡ true) → ⊥)
        × (Ahead (node_rest load nodes sets a z) (node_out load nodes sets a z) X → ⊥) × (Behind (node_rest load nodes sets a z) (node_in load nodes sets a z) X → ⊥))
    node_own free =
        let r = moved_own load (placed nodes sets) a (at sets z) (nodeFree_here.long o p a z s) alone (at sets X) set-occupied (set_other X b d) free in
        let P = at nodes a in
        let m = p.inside a s.atom in
        let f = ahead-named named target z s.within X b in
        let g = behind_named named target z s.within X b in
        let i = out-named named target z s.within P m in
        let j = in_named named target z s.within P m in (
          λ h. let k = r.0 h in (
            λ w. k.0 (subst (λ Y. outs load (placed nodes sets) a (at sets z) Y ≡ true) (sym (here a s.atom)) (i.0 w.0), subst (λ Y. ins load (placed nodes sets) a (at sets z) Y ≡ true) (sym (here a s.atom)) (j.0 w.1)),
            λ w. k.1 (f.0 w),
            λ w. k.2 (g.0 w),
          ),
          λ h. r.1 (
            λ w. h.0 (i.1 (subst (λ Y. outs load (placed nodes sets) a (at sets z) Y ≡ true) (here a s.atom) w.0), j.1 (subst (λ Y. ins load (placed nodes sets) a (at sets z) Y ≡ true) (here a s.atom) w.1)),
            λ w. h.1 (f.1 w),
            λ w. h.2 (g.1 w),
          ),
        )

  module _ (f b : ℕ → Bool) (w : (nodeFree_here.Walked o p a z s) f b) (X : ℕ) (l : X < length sets) (u : occupied load nodes X ≡ true) (d : X ≡ at nodes a → ⊥) where
    -- where there is no cycle without the atom
    pub fine_decides : Acyclic (node_rest load nodes sets a z)
        → Decides (Fine load nodes sets a X) (is_free (node_out load nodes sets a z) (node_in load nodes sets a z) f b (count (meets (node_out load nodes sets a z) (node_in load nodes sets a z) b) (length sets)) X)
    fine_decides g =
        same_decides (λ k. (node_free X l u d).1 (g, k)) (λ k. ((node_free X l u d).0 k).1)
        (free_decides (node_rest load nodes sets a z) (node_out load nodes sets a z) (node_in load nodes sets a z) (length sets) (λ c h. target z c h) f b w.fore w.aft X l)

    -- where there is one, none is fine
    pub never_fine : (Acyclic (node_rest load nodes sets a z) → ⊥) → Fine load nodes sets a X → ⊥
    never_fine g h = g ((node_free X l u d).0 h).0

  -- from an acyclic graph two marks decide, unless the atom's own node is both led to by the atom and leads to it
  pub own_decides : (X : ℕ) → X < length sets → occupied load nodes X ≡ true → (X ≡ at nodes a → ⊥) → cyclic (edge load (placed nodes sets)) (placed nodes sets) ≡ false
      → (f b : Bool) → Decides (Ahead (node_rest load nodes sets a z) (node_out load nodes sets a z) X) f → Decides (Behind (node_rest load nodes sets a z) (node_in load nodes sets a z) X) b
      → Decides (Fine load nodes sets a X) (not (node_out load nodes sets a z (at nodes a) && node_in load nodes sets a z (at nodes a)) && (not f && not b))
  own_decides X l u d free f b fore aft = record { right = there; wrong = λ h k. true≢false (sym (back k) ∙ h) }
    where
      there : (not (node_out load nodes sets a z (at nodes a) && node_in load nodes sets a z (at nodes a)) && (not f && not b)) ≡ true → Fine load nodes sets a X
      there h =
          let k = and_right (not (node_out load nodes sets a z (at nodes a) && node_in load nodes sets a z (at nodes a))) _ h in
          (node_own X l u d free).1 (
            λ w. true≢false (sym (and_both (node_out load nodes sets a z (at nodes a)) _ w.0 w.1) ∙ not-true _ (and_left (not (node_out load nodes sets a z (at nodes a) && node_in load nodes sets a z (at nodes a))) _ h)),
            fore.wrong (not-true _ (and_left (not f) _ k)),
            aft.wrong (not-true _ (and_right (not f) _ k)),
          )

      back : Fine load nodes sets a X → (not (node_out load nodes sets a z (at nodes a) && node_in load nodes sets a z (at nodes a)) && (not f && not b)) ≡ true
      back h =
          let k = (node_own X l u d free).0 h in
          and_both (not (node_out load nodes sets a z (at nodes a) && node_in load nodes sets a z (at nodes a))) _
          (ap not (fails _ (λ w. k.0 (and_left (node_out load nodes sets a z (at nodes a)) _ w, and_right (node_out load nodes sets a z (at nodes a)) _ w))))
          (and_both (not f) _ (ap not (fails _ (λ w. k.1 (fore.right w)))) (ap not (fails _ (λ w. k.2 (aft.right w)))))

module _ {load : Load} {nodes sets : List ℕ} (o : InOrder load) (p : Placing load nodes sets) (a z : ℕ) (s : Spare load nodes sets a z) (f b : ℕ → Bool) where
  -- the number of moves of atom a that plain trials accept: of any graph, where there is no cycle without the atom
  pub counted-free : Walked o p a z s f b → Acyclic (node_rest load nodes sets a z)
      → counted load nodes a (length sets) (fine load nodes sets a)
      ≡ counted load nodes a (length sets) (is_free (node_out load nodes sets a z) (node_in load nodes sets a z) f b (count (meets (node_out load nodes sets a z) (node_in load nodes sets a z) b) (length sets)))
  counted-free w g = counted_same load nodes sets a _ (λ X l u d. fine_decides o p a z s f b w X l u d g)

  -- 0 where there is one
  pub counted_none : (Acyclic (node_rest load nodes sets a z) → ⊥) → counted load nodes a (length sets) (fine load nodes sets a) ≡ 0
  unfolding counted
  counted_none g = counted_same load nodes sets a (λ X. false) (λ X l u d. record { right = λ h. absurd (true≢false (sym h)); wrong = λ h k. g ((node_free o p a z s X l u d).0 k).0 }) ∙ nought
    where
      drop : (s t : Bool) → (s && (t && false)) ≡ false
      drop true true = refl
      drop true false = refl
      drop false t = refl

      nought : counted load nodes a (length sets) (λ X. false) ≡ 0
      nought = count-all_no _ (length sets) (λ X l. drop (occupied load nodes X) (not (eqb X (at nodes a))))

  -- of an acyclic graph, where f and b mark by the present edges, from first steps without the atom
  pub counted_own : cyclic (edge load (placed nodes sets)) (placed nodes sets) ≡ false
      → ((X : ℕ) → X < length sets → (X ≡ at nodes a → ⊥) → Decides (Fore (node_edge load nodes sets) (node_rest load nodes sets a z) (node_out load nodes sets a z) X) (f X))
      → ((X : ℕ) → X < length sets → (X ≡ at nodes a → ⊥) → Decides (Aft (node_edge load nodes sets) (node_rest load nodes sets a z) (node_in load nodes sets a z) X) (b X))
      → counted load nodes a (length sets) (fine load nodes sets a)
      ≡ counted load nodes a (length sets) (λ X. not (node_out load nodes sets a z (at nodes a) && node_in load nodes sets a z (at nodes a)) && (not (f X) && not (b X)))
  counted_own free fore aft =
      counted_same load nodes sets a _ (λ X l u d.
      let i = node_fore o p a z s X l d free in
      let j = node_aft o p a z s X l d free in
      own_decides o p a z s X l u d free (f X) (b X) (same_decides i.1 i.0 (fore X l d)) (same_decides j.1 j.0 (aft X l d)))
