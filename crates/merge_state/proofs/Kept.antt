-- Theorems on the definitions of specs/Kept: they stand here, so that the crate can be read with a definition changed. Assumes nothing.
use Prim.Native.Nat.{ℕ, zero, suc, ◌+◌, ◌<◌, ◌≤◌}
use Rattle.std.proofs.Common.{arith, add-one, sym, ◌∙◌, inl, inr, ⊎_elim}
use Rattle.std.proofs.Math.Decide.{dec_lt}
use Rattle.std.specs.Prelude.{◌≡◌, ◌⊎◌, Bool, cond, ◌&&◌, List, [], ◌∷◌, ◌++◌, length, leb}
use Rattle.std.proofs.Math.Path.{refl, ap}
use Rattle.std.proofs.Math.Bool.{true, false, not}
use Rattle.std.proofs.Math.ListN.{get_or}
use Rattle.std.proofs.Math.Dec.{eqb}
use borrow.Author.Tests.{eqb-true, eqb-false, leb-false, ltb-true, ltb-false, not-true, not-false}
use Rattle.graphs.specs.Bools.{and_left, and_right, or_false_left, or_false_right}
use Rattle.graphs.specs.Count.{count, count_yes, count_mono}
use Rattle.entry_set.specs.Sets.{value, width}
use Rattle.merge_state.specs.declared.Sizes.{Sizes}
use Rattle.merge_state.specs.State.{None, Graph, put, put_other}
use Rattle.merge_state.specs.Merges.{gone, waits}
use Rattle.merge_state.specs.Methods.{Passed, merged, created_chunk, warn, merges, candidate, passed}
use Rattle.merge_state.specs.Table.{Call, init_module_assignment, add_module_to_chunk, register_chunk_graph_index, to_temp_idx, calc_chunk_dependencies, would_create_circular_dependency, is_reachable, merge_chunk_dependencies, pass, first_fitting, any_misfit, any_gone, later, acted}
use Rattle.merge_state.specs.Ordered.{Ordered, never, appended-kept, registered-kept, created_chunk-kept, merged-kept, calculated-kept, assigned-kept}
use Rattle.merge_state.specs.Kept.{none-fits, proposal, unmerged, Passing, Proper}

module _ {z : Sizes} {g : Graph} (o : Ordered z g) (room : g.initial + g.created + count (waits g) g.made ≤ z.chunks) where
  -- a chunk that waits isn't initial, nor merged
  later_than : (k : ℕ) → waits g k ≡ true → g.initial ≤ k
  later_than k w = elim (dec_lt k g.initial) [
    | yes b ↦ absurd (never _ (and_left (g.needs k) _ w) (o.initial_needs_none k b))
    | no b ↦ omega arith
  ]

  free : (k : ℕ) → waits g k ≡ true → g.into k ≡ None
  free k w = eqb-true _ None (not-false _ (not-true _ (and_right (g.needs k) _ w)))

  -- another chunk's entry, after a merge of s
  into-other : (b : Bool) (f : ℕ → ℕ) (s t x : ℕ) → (x ≡ s → ⊥) → cond b (put f s t) f x ≡ f x
  into-other true f s t x h = put_other f s t x h
  into-other false f s t x h = refl

  one_kept : (r : Passed) (k p b : ℕ) → Passing z g k r → k < g.made → waits g k ≡ true → ((p ≡ None → ⊥) → Proper g k p) → Passing z g (suc k) (candidate r k p b)
  unfolding candidate merges merged created_chunk
  one_kept r k p b v l n f = go ((not (eqb p None) && eqb b 0) && not (warn r.graph k p)) refl
    where
      next : count (waits g) (suc k) ≡ count (waits g) k + 1
      next = ap (count (waits g)) (sym (add-one k)) ∙ count_yes (waits g) k n

      there : r.graph.initial + r.graph.created < z.chunks
      there = omega (arith, next, count_mono (waits g) (suc k) g.made l, v.initial, v.created)

      from : (x : ℕ) → (x < g.initial) ⊎ (suc k ≤ x) → (x < g.initial) ⊎ (k ≤ x)
      from x h = ⊎_elim (λ a. inl a) (λ a. inr (omega arith)) h

      other : (x : ℕ) → (x < g.initial) ⊎ (suc k ≤ x) → x ≡ k → ⊥
      other x h q = ⊎_elim (λ a. omega (arith, later_than k n)) (λ a. omega arith) h

      go : (t : Bool) → ((not (eqb p None) && eqb b 0) && not (warn r.graph k p)) ≡ t
          → Passing z g (suc k) (cond t
          (record { graph = merged r.graph p k; kinds = r.kinds ++ (0 ∷ []); numbers = r.numbers ++ (p ∷ []) })
          (record { graph = created_chunk r.graph k; kinds = r.kinds ++ (1 ∷ []); numbers = r.numbers ++ ((r.graph.initial + r.graph.created) ∷ []) }))
      go true q =
          let c = f (eqb-false p None (not-true _ (and_left (not (eqb p None)) _ (and_left (not (eqb p None) && eqb b 0) _ q)))) in
          record {
            ordered = merged-kept v.ordered p k (omega (arith, c.initial, v.initial, v.made, v.ordered.begun)) (omega (arith, v.made)) (λ e. omega (arith, c.initial, later_than k n))
                (v.into p (inl c.initial) ∙ c.unmerged) (v.into k (inr (omega arith)) ∙ free k n);
            initial = v.initial;
            made = v.made;
            created = omega (arith, next, v.created);
            needs = v.needs;
            mode = v.mode;
            into = λ x h. into-other r.graph.mode r.graph.into k p x (other x h) ∙ v.into x (from x h);
          }
      go false q =
          record {
            ordered = created_chunk-kept v.ordered k there (omega (arith, v.made));
            initial = v.initial;
            made = v.made;
            created = omega (arith, next, v.created);
            needs = v.needs;
            mode = v.mode;
            into = λ x h. v.into x (from x h);
          }

  pub passed-kept : (props bars : List ℕ) → any_misfit g.initial true props ≡ false → any_gone g props ≡ false → (k : ℕ) → k ≤ g.made → Passing z g k (passed g props bars k)
  unfolding passed
  passed-kept props bars f u zero h = record { ordered = o; initial = refl; made = refl; created = omega arith; needs = refl; mode = refl; into = λ x a. refl }
  passed-kept props bars f u (suc k) h = go (waits g k) refl (passed-kept props bars f u k (omega arith))
    where
      p : ℕ
      p = get_or props (count (waits g) k) None

      proper : (p ≡ None → ⊥) → Proper g k p
      proper n = record { initial = proposal g props f (count (waits g) k) n; unmerged = unmerged g props u (count (waits g) k) n }

      go : (t : Bool) → waits g k ≡ t → Passing z g k (passed g props bars k)
          → Passing z g (suc k) (cond t (candidate (passed g props bars k) k p (get_or bars (count (waits g) k) 0)) (passed g props bars k))
      go true q v = one_kept (passed g props bars k) k p (get_or bars (count (waits g) k) 0) v (omega arith) q proper
      go false q v = record {
        ordered = v.ordered;
        initial = v.initial;
        made = v.made;
        created = omega (arith, v.created, count_mono (waits g) k (suc k) (omega arith));
        needs = v.needs;
        mode = v.mode;
        into = λ x h. v.into x (⊎_elim (λ a. inl a) (λ a. inr (omega arith)) h);
      }

-- a call that no row refuses
pub acted-kept : (z : Sizes) (g : Graph) (c : Call) → Ordered z g → first_fitting (later z g c) ≡ 0 → Ordered z (acted z g c).1
unfolding later acted
acted-kept z g (init_module_assignment k set effs) o h =
    let h₁ = none-fits _ 16 _ (omega arith) h in
    let h₂ = none-fits _ 18 _ (omega arith) h₁.1 in
    let h₃ = none-fits _ 19 _ (omega arith) h₂.1 in
    let fits = not-false _ (or_false_right (leb z.modules k) _ h₁.0) in
    assigned-kept o effs k (value set) (leb-false _ _ (or_false_left (leb z.modules k) _ h₁.0)) (ltb-true _ _ (and_right (eqb (length set) (width z.bits)) _ fits)) h₂.0 (leb-false _ _ h₃.0)
acted-kept z g (add_module_to_chunk k x effs) o h =
    let h₁ = none-fits _ 16 _ (omega arith) h in
    let h₂ = none-fits _ 19 _ (omega arith) h₁.1 in
    appended-kept o effs x k (leb-false _ _ (or_false_right (leb z.modules k) _ h₁.0)) (leb-false _ _ (or_false_left (leb z.modules k) _ h₁.0)) (leb-false _ _ h₂.0)
acted-kept z g (register_chunk_graph_index k x) o h =
    let h₁ = none-fits _ 16 _ (omega arith) h in
    registered-kept o k x (leb-false _ _ (or_false_left (leb z.chunks k) _ h₁.0)) (leb-false _ _ (or_false_right (leb z.chunks k) _ h₁.0))
acted-kept z g (to_temp_idx k) o h = o
acted-kept z g (calc_chunk_dependencies starts deps) o h = calculated-kept o starts deps
acted-kept z g (would_create_circular_dependency s t) o h = o
acted-kept z g (is_reachable x y) o h = o
acted-kept z g (merge_chunk_dependencies t s) o h =
    let h₁ = none-fits _ 16 _ (omega arith) h in
    let h₂ = none-fits _ 20 _ (omega arith) h₁.1 in
    let h₃ = none-fits _ 28 _ (omega arith) h₂.1 in
    merged-kept o t s (leb-false _ _ (or_false_left (leb g.made t) _ h₁.0)) (leb-false _ _ (or_false_right (leb g.made t) _ h₁.0)) (λ e. eqb-false t s h₂.0 (sym e))
    (eqb-true _ None (not-false _ (or_false_left (gone g t) _ h₃.0))) (eqb-true _ None (not-false _ (or_false_right (gone g t) _ h₃.0)))
acted-kept z g (pass props bars kinds numbers) o h =
    let h₁ = none-fits _ 15 _ (omega arith) h in
    let h₂ = none-fits _ 16 _ (omega arith) h₁.1 in
    let h₃ = none-fits _ 28 _ (omega arith) h₂.1 in
    let h₄ = none-fits _ 18 _ (omega arith) h₃.1 in
    (passed-kept o (ltb-false _ _ h₄.0) props bars h₂.0 h₃.0 g.made (omega arith)).ordered
