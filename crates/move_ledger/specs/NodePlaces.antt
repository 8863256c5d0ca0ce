-- For the code: a set registered at a node without an atom changes no placement and no slot. Assumes nothing.
use Rattle.std.specs.Prelude.{ℕ, ◌+◌, ◌-◌, ◌^◌, ◌≤◌, ◌<◌, ◌≡◌, false, List, ltb, eqb}
use Rattle.std.proofs.Common.{arith, subst, ◌∙◌, true≢false, ext_get_or, ne_eqb}
use Rattle.std.proofs.Math.Decide.{ℕ_discrete, dec_lt}
use Rattle.std.proofs.Math.Path.{refl, sym, ap}
use Rattle.std.proofs.Math.Bool.{cond, and-false}
use Rattle.std.proofs.Math.ListN.{length}
use Rattle.graphs.specs.Count.{count-all_no}
use Rattle.graphs.specs.Lists.{has}
use Rattle.graphs.specs.Tab.{tab_alike}
use Rattle.move_ledger.specs.Graph.{Load, none, at, owner, members, occupied}
use Rattle.move_ledger.specs.GraphLaws.{occupy}
use Rattle.move_ledger.specs.Ledger.{put}
use Rattle.move_ledger.specs.Places.{Apart, put_grows, put-inside, put_behind, put_other, put_apart}
use Rattle.move_ledger.specs.Evict.{Free}
use Rattle.move_ledger.specs.Nodes.{placed, Placing, highest, fronts, front, face_source, face_target, source, target, sources, targets}
use Rattle.move_ledger.specs.NodeLaws.{placed-length, placed_at, members-nodes, highest-more, highest_ext}

-- each node has a set of its own
pub placing_apart : {load : Load} {nodes sets : List ℕ} → Placing load nodes sets → Apart sets
placing_apart p i j a b e = omega (arith, p.distinct i j (omega arith) b e)

-- node r has no atom
module _ {load : Load} {nodes sets : List ℕ} (p : Placing load nodes sets) (r T : ℕ) (within : r ≤ length sets) (empty : occupied load nodes r ≡ false) where
  abbrev new : List ℕ
  new = put r T sets

  away : (i : ℕ) → i < load.A → at nodes i ≡ r → ⊥
  away i b e = true≢false (sym (occupy load nodes r i b e) ∙ empty)

  pub placed-put : placed nodes new ≡ placed nodes sets
  placed-put =
      ext_get_or 0 (placed nodes new) (placed nodes sets) (placed-length nodes new ∙ sym (placed-length nodes sets)) (λ i b.
      let c : i < length nodes = omega (arith, placed-length nodes new) in
      let d : i < load.A = omega (arith, p.atoms) in
      placed_at nodes new i c ∙ (put_other r T sets within (at nodes i) (omega (arith, p.inside i d, put_grows r T sets within)) (away i d)).1 ∙ sym (placed_at nodes sets i c))

  pub placing_put : has T sets ≡ false → length new ≤ none → Placing load nodes new
  placing_put unseen few =
      record {
        atoms = p.atoms;
        few = few;
        distinct = λ x y a b e. one x y a b e (dec_lt x y) (dec_lt y x);
        inside = λ i b. omega (arith, p.inside i b, put_grows r T sets within);
      }
    where
      one : (x y : ℕ) → x < length new → y < length new → at new x ≡ at new y → Dec (x < y) → Dec (y < x) → x ≡ y
      one x y a b e (yes h) k = absurd (put_apart r T sets within unseen (placing_apart p) x y h b e)
      one x y a b e (no h) (yes k) = absurd (put_apart r T sets within unseen (placing_apart p) y x k a (sym e))
      one x y a b e (no h) (no k) = omega arith

  -- the front of a facade edge has an atom, so it is another node
  front-put : (e : ℕ) → front load nodes new e ≡ front load nodes sets e
  unfolding front
  front-put e = go (dec_lt r (length sets))
    where
      same : (x : ℕ) → x < length sets → fronts load nodes new e x ≡ fronts load nodes sets e x
      same x b = pick (ℕ_discrete x r)
        where
          pick : Dec (x ≡ r) → fronts load nodes new e x ≡ fronts load nodes sets e x
          pick (yes f) = rw (f, empty) (and-false (eqb (at new r) (2 ^ e)) ∙ sym (and-false (eqb (at sets r) (2 ^ e))))
          pick (no f) = rw (put_other r T sets within x (omega (arith, put_grows r T sets within)) f).1 refl

      ends : fronts load nodes new e r ≡ false
      ends = rw empty (and-false (eqb (at new r) (2 ^ e)))

      go : Dec (r < length sets) → highest (fronts load nodes new e) (length new) ≡ highest (fronts load nodes sets e) (length sets)
      go (yes h) = ap (highest (fronts load nodes new e)) (put-inside r T sets within h) ∙ highest_ext (fronts load nodes new e) (fronts load nodes sets e) (length sets) same
      go (no h) =
          let z : r ≡ length sets = omega arith in
          ap (highest (fronts load nodes new e)) (put_behind r T sets within z) ∙ highest-more (fronts load nodes new e) (length sets)
          ∙ ap (λ t. cond t (length sets) (highest (fronts load nodes new e) (length sets))) (subst (λ k. fronts load nodes new e k ≡ false) z ends)
          ∙ highest_ext (fronts load nodes new e) (fronts load nodes sets e) (length sets) same

  -- so the slots stay
  pub sources-put : sources load nodes new ≡ sources load nodes sets
  unfolding sources source
  sources-put =
      tab_alike _ _ (load.D + load.E)
      (λ k b. ap (λ f. cond (ltb k load.D) (at nodes (owner load k)) (face_source f (at load.hosts (k - load.D)))) (front-put (k - load.D)))

  pub targets-put : targets load nodes new ≡ targets load nodes sets
  unfolding targets target
  targets-put =
      tab_alike _ _ (load.D + load.E)
      (λ k b. ap (λ f. cond (ltb k load.D) (at nodes (at load.dependencies k)) (face_target nodes f (at load.hosts (k - load.D)))) (front-put (k - load.D)))

-- a free place is a node without an atom
pub free_node : {load : Load} {nodes sets : List ℕ} → Placing load nodes sets → (N r : ℕ) → Free load N (placed nodes sets) sets r → occupied load nodes r ≡ false
unfolding members
free_node {load} {nodes} {sets} p N r f = go (dec_lt r (length sets))
  where
    go : Dec (r < length sets) → occupied load nodes r ≡ false
    go (yes h) = ap (ltb 0) (members-nodes p r h) ∙ f.empty h
    go (no h) = ap (ltb 0) (count-all_no (λ i. eqb (at nodes i) r) load.A (λ i c. ne_eqb (at nodes i) r (λ e. omega (arith, p.inside i c))))

-- the target registered, if unseen, changes no placement and no slot
pub record Kept (load : Load) (N : ℕ) (nodes sets sets' : List ℕ) : Type 0 where
  pub placing : Placing load nodes sets'
  pub placed : placed nodes sets' ≡ placed nodes sets
  pub sources : sources load nodes sets' ≡ sources load nodes sets
  pub targets : targets load nodes sets' ≡ targets load nodes sets
