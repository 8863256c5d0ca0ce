-- Theorems on the definitions of specs/MergePass: they stand here, so that the crate can be read with a definition changed. Assumes nothing.
use Prim.Native.Nat.{ℕ, ◌<◌}
use Rattle.std.proofs.Common.{arith, sym, subst, ◌∙◌, true≢false, eqb-true, eq-eqb, leb-false}
use Rattle.std.proofs.Math.Decide.{ℕ_discrete}
use Rattle.std.specs.Prelude.{◌≡◌, Bool, not, cond, ◌||◌, eqb}
use Rattle.std.proofs.Math.Path.{refl, ap}
use Rattle.std.proofs.Math.Bool.{true, false}
use mathlib.Core.List.{List, [], ◌∷◌}
use Rattle.std.proofs.lemmas.Bool.{eqb-false, not-true, not-false}
use Rattle.graphs.specs.Bools.{alike, and_left, and_right, or_false_left, or_false_right}
use Rattle.entry_set.specs.Sets.{value}
use Rattle.merge_state.specs.declared.Sizes.{Sizes}
use Rattle.merge_state.specs.State.{None, Graph, chunk_of}
use Rattle.merge_state.specs.Merges.{gone}
use Rattle.merge_state.specs.Methods.{appended, opened, assigned_to, registered, warn, merged}
use Rattle.merge_state.specs.Table.{Answer, Call, init_module_assignment, add_module_to_chunk, register_chunk_graph_index, to_temp_idx, calc_chunk_dependencies, would_create_circular_dependency, is_reachable, merge_chunk_dependencies, pass, unmade, first_fitting, over_lists, bad_lists, later, acted}
use Rattle.merge_state.specs.Kept.{none-fits}
use Rattle.merge_state.proofs.Kept.{acted-kept}
use Rattle.merge_state.specs.Ordered.{Ordered}
use Rattle.merge_area.specs.Layout.{cell, head}
use Rattle.merge_area.specs.Read.{mode_in, sets-in, read}
use Rattle.merge_area.specs.Calls.{refusal, step, ends}
use Rattle.merge_laws.specs.Rows.{Stood, free}
use Rattle.merge_laws.specs.Ordering.{ordered}
use Rattle.demands.specs.MergeRefused.{free_step, stuck_step}
use Rattle.demands.specs.MergeKept.{write-holds}
use Rattle.demands.specs.MergeCounted.{Loopless, opened_loopless, merge_loopless, merge-closes, passed_loopless}
use Rattle.demands.specs.MergePass.{counted_loop, free-take, held-free, passable, warned, heeding, all_heeding, step_mode}

or_swap : (a b : Bool) → (a || b) ≡ (b || a)
or_swap true true = refl
or_swap true false = refl
or_swap false true = refl
or_swap false false = refl

eqb_swap : (x y : ℕ) → eqb x y ≡ eqb y x
eqb_swap x y = alike _ _ (λ h. eq-eqb y x (sym (eqb-true x y h))) (λ h. eq-eqb x y (sym (eqb-true y x h)))

-- a merge of an unrefused call, and the question about it
module _ (z : Sizes) (a : List ℕ) (t s : ℕ) where
  -- both are refused by the same rows
  same_rows : refusal z a (would_create_circular_dependency s t) ≡ refusal z a (merge_chunk_dependencies t s)
  unfolding refusal over_lists bad_lists later
  same_rows = rw (or_swap (unmade (read z a) s) (unmade (read z a) t), eqb_swap s t, or_swap (gone (read z a) s) (gone (read z a) t)) refl

  -- so its answer is the warning
  question : refusal z a (merge_chunk_dependencies t s) ≡ 0 → warned (step z a (would_create_circular_dependency s t)).0 ≡ warn (read z a) s t
  unfolding warned acted
  question h = ap (λ (r : Answer × List ℕ). warned r.0) (free_step z a (would_create_circular_dependency s t) (same_rows ∙ h))

-- an unrefused merge, of an area whose merged chunks stand for their target
record Mergeable (z : Sizes) (g : Graph) (t s : ℕ) : Type 0 where
  pub target : t < g.made
  pub source : s < g.made
  pub apart : s ≡ t → ⊥
  pub free_target : g.into t ≡ None
  pub free_source : g.into s ≡ None

mergeable : (z : Sizes) (g : Graph) (t s : ℕ) → first_fitting (later z g (merge_chunk_dependencies t s)) ≡ 0 → Mergeable z g t s
unfolding later
mergeable z g t s h =
    let h₁ = none-fits _ 16 _ (omega arith) h in
    let h₂ = none-fits _ 20 _ (omega arith) h₁.1 in
    let h₃ = none-fits _ 28 _ (omega arith) h₂.1 in
    record {
      target = leb-false _ _ (or_false_left (unmade g t) _ h₁.0);
      source = leb-false _ _ (or_false_right (unmade g t) _ h₁.0);
      apart = λ e. eqb-false t s h₂.0 (sym e);
      free_target = eqb-true _ None (not-false _ (or_false_left (gone g t) _ h₃.0));
      free_source = eqb-true _ None (not-false _ (or_false_right (gone g t) _ h₃.0));
    }

module _ (z : Sizes) (a : List ℕ) (m : mode_in z a ≡ true) where
  -- an unrefused call's graph
  graph_stays : (c : Call) → refusal z a c ≡ 0 → heeding z a c ≡ true → Loopless (read z a) → Loopless (acted z (read z a) c).1
  unfolding acted heeding assigned_to appended registered
  graph_stays (init_module_assignment k set effs) q h none = go (eqb (chunk_of (value set) (sets-in z a)) None)
    where
      o : Ordered z (read z a)
      o = ordered z a (free z a (init_module_assignment k set effs) refl q).stood

      go : (b : Bool) → Loopless (cond b (appended effs (opened (read z a) (value set)) (cell a (head z 1)) k) (appended effs (read z a) (chunk_of (value set) (sets-in z a)) k))
      go true = opened_loopless o (value set) none
      go false = none
  graph_stays (add_module_to_chunk k x effs) q h none = none
  graph_stays (register_chunk_graph_index k x) q h none = none
  graph_stays (to_temp_idx k) q h none = none
  graph_stays (calc_chunk_dependencies starts deps) q h none = absurd (true≢false (sym h))
  graph_stays (would_create_circular_dependency s t) q h none = none
  graph_stays (is_reachable x y) q h none = none
  graph_stays (merge_chunk_dependencies t s) q h none =
      let f = free z a (merge_chunk_dependencies t s) refl q in
      let c = mergeable z (read z a) t s f.later in
      merge_loopless (ordered z a f.stood) t s m c.target c.source c.apart c.free_target c.free_source (sym (question z a t s q) ∙ not-true _ h) none
  graph_stays (pass props bars kinds numbers) q h none =
      let c = passable z a props bars kinds numbers q in
      passed_loopless (ordered z a c.stood) m c.room props bars c.fits c.unmerged none (cell a (head z 1)) (omega arith)

  -- a call, refused or not
  pub call-stays_acyclic : (c : Call) → heeding z a c ≡ true → counted_loop z a ≡ false → counted_loop z (step z a c).1 ≡ false
  call-stays_acyclic c h n = elim (ℕ_discrete (refusal z a c) 0) [
    | no q ↦ ap (counted_loop z) (stuck_step z a c q) ∙ n
    | yes q ↦
        let f = free z a c refl q in
        let o = ordered z a f.stood in
        ap (λ (r : Answer × List ℕ). counted_loop z r.1) (free_step z a c q)
        ∙ held-free z _ _ (write-holds z a c q).graph (acted-kept z (read z a) c o f.later) (graph_stays c q h (free-take z a o n))
  ]

  -- of an acyclic area, a merge that the warning speaks against closes a loop, and no other does
  pub merge-closes_exactly : (t s : ℕ) → refusal z a (merge_chunk_dependencies t s) ≡ 0 → counted_loop z a ≡ false
      → counted_loop z (step z a (merge_chunk_dependencies t s)).1 ≡ warned (step z a (would_create_circular_dependency s t)).0
  unfolding acted heeding
  merge-closes_exactly t s q n = go (warned (step z a (would_create_circular_dependency s t)).0) refl (counted_loop z (step z a (merge_chunk_dependencies t s)).1) refl
    where
      after : List ℕ
      after = (step z a (merge_chunk_dependencies t s)).1

      stood : Stood z a
      stood = (free z a (merge_chunk_dependencies t s) refl q).stood

      held : read z after ≡ merged (read z a) t s
      held = ap (λ (r : Answer × List ℕ). read z r.1) (free_step z a (merge_chunk_dependencies t s) q) ∙ (write-holds z a (merge_chunk_dependencies t s) q).graph

      kept : Ordered z (read z after)
      kept = subst (Ordered z) (sym held) (acted-kept z (read z a) (merge_chunk_dependencies t s) (ordered z a stood) (free z a (merge_chunk_dependencies t s) refl q).later)

      c : Mergeable z (read z a) t s
      c = mergeable z (read z a) t s (free z a (merge_chunk_dependencies t s) refl q).later

      go : (w : Bool) → warned (step z a (would_create_circular_dependency s t)).0 ≡ w → (b : Bool) → counted_loop z after ≡ b → b ≡ w
      go true e true k = refl
      go false e false k = refl
      go false e true k = absurd (true≢false (sym k ∙ call-stays_acyclic (merge_chunk_dependencies t s) (ap not e) n))
      go true e false k =
          absurd (subst Loopless held (free-take z after kept k) t
          (merge-closes (ordered z a stood) t s m c.target c.source c.apart c.free_target c.free_source (sym (question z a t s q) ∙ e)))

-- over whole lists of calls, refused ones included: passes, unwarned merges, questions, registering, modules and chunks added
pub calls_stay_acyclic : (z : Sizes) (a : List ℕ) (calls : List Call) → mode_in z a ≡ true → all_heeding z a calls ≡ true → counted_loop z a ≡ false → counted_loop z (ends z a calls) ≡ false
unfolding ends all_heeding
calls_stay_acyclic z a [] m h n = n
calls_stay_acyclic z a (c ∷ l) m h n =
    calls_stay_acyclic z (step z a c).1 l (step_mode z a c ∙ m) (and_right (heeding z a c) _ h) (call-stays_acyclic z a m c (and_left (heeding z a c) _ h) n)
