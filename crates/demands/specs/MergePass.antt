-- A pass never closes a loop, on areas whose merged chunks stand for their target. Assumes nothing.
use Prim.Native.Nat.{ℕ, zero, suc, ◌+◌, ◌≤◌}
use Rattle.std.proofs.Common.{arith, sym, subst, ◌∙◌, ltb-false}
use Rattle.std.proofs.Math.Decide.{ℕ_discrete}
use Rattle.std.specs.Prelude.{◌≡◌, Bool, not, cond, ◌&&◌, eqb, ltb}
use Rattle.std.proofs.Math.Path.{refl, ap}
use Rattle.std.proofs.Math.Bool.{true, false}
use mathlib.Core.List.{List, [], ◌∷◌}
use Rattle.graphs.specs.Count.{count}
use Rattle.graphs.specs.Lists.{any, below}
use Rattle.graphs.specs.Walk.{via, cyclic}
use Rattle.entry_set.specs.Sets.{value}
use Rattle.graph_walks.specs.Counted.{counted}
use Rattle.merge_state.specs.declared.Sizes.{Sizes}
use Rattle.merge_state.specs.State.{None, Graph, chunk_of}
use Rattle.merge_state.specs.Merges.{ending, counts, waits}
use Rattle.merge_state.specs.Methods.{appended, opened, assigned_to, registered, module_on, listed_on, calculated, merged}
use Rattle.merge_state.specs.Table.{Answer, done, refused, says, chunk, nothing, lists, Call, init_module_assignment, add_module_to_chunk, register_chunk_graph_index, to_temp_idx, calc_chunk_dependencies, would_create_circular_dependency, is_reachable, merge_chunk_dependencies, pass, any_misfit, any_gone, later, acted, turned}
use Rattle.merge_state.specs.Kept.{none-fits}
use Rattle.merge_state.proofs.Kept.{passed-kept}
use Rattle.merge_state.specs.Ordered.{Ordered}
use Rattle.merge_area.specs.Layout.{cell, head}
use Rattle.merge_area.specs.Read.{mode_in, sets-in, read}
use Rattle.merge_area.specs.Writes.{pass_area, write}
use Rattle.merge_area.specs.Calls.{refusal, step}
use Rattle.merge_laws.specs.Rows.{turned-free, turned_refused, Stood, free}
use Rattle.merge_laws.specs.Ordering.{ordered}
use Rattle.merge_reads.specs.Pass.{pass_holds}
use Rattle.demands.specs.MergeRefused.{free_step, stuck_step}
use Rattle.demands.specs.MergeKept.{write-holds}
use Rattle.demands.specs.MergeCounted.{Loopless, loopless, passed_loopless}

-- the dependencies that count close a loop
unfoldable pub counted_loop : Sizes → List ℕ → Bool
counted_loop z a = cyclic (counts (read z a)) (below (cell a (head z 1)))

-- the area after the pass's chunks below k, which is as it was lent where the pass is refused
unfoldable pub pass_until : Sizes → List ℕ → (props bars kinds numbers : List ℕ) → ℕ → List ℕ
pass_until z a props bars kinds numbers k = (turned (refusal z a (pass props bars kinds numbers)) a (done, pass_area z a props bars k)).1

-- after the last of them the pass is done
pub pass_whole : (z : Sizes) (a props bars kinds numbers : List ℕ) → pass_until z a props bars kinds numbers (cell a (head z 1)) ≡ (step z a (pass props bars kinds numbers)).1
unfolding pass_until step write turned
pass_whole z a props bars kinds numbers = go (refusal z a (pass props bars kinds numbers)) _ _ _
  where
    go : (q : ℕ) (x y : Answer) (b : List ℕ) → (turned q a (x, b)).1 ≡ (turned q a (y, b)).1
    go zero x y b = refl
    go (suc n) x y b = refl

-- an area whose graph is in order, as its graph says
module _ (z : Sizes) (a : List ℕ) (o : Ordered z (read z a)) where
  free_give : Loopless (read z a) → counted_loop z a ≡ false
  unfolding counted_loop
  free_give h = (loopless o).1 h

  pub free-take : counted_loop z a ≡ false → Loopless (read z a)
  unfolding counted_loop
  free-take h = (loopless o).0 h

-- the area holds graph g, in order and loopless
pub held-free : (z : Sizes) (a : List ℕ) (g : Graph) → read z a ≡ g → Ordered z g → Loopless g → counted_loop z a ≡ false
held-free z a g e o h = free_give z a (subst (Ordered z) (sym e) o) (subst Loopless (sym e) h)

-- a pass that no row refuses
pub record Passable (z : Sizes) (a props : List ℕ) : Type 0 where
  pub stood : Stood z a
  pub room : cell a (head z 0) + cell a (head z 2) + count (waits (read z a)) (cell a (head z 1)) ≤ z.chunks
  pub fits : any_misfit (cell a (head z 0)) true props ≡ false
  pub unmerged : any_gone (read z a) props ≡ false

pub passable : (z : Sizes) (a props bars kinds numbers : List ℕ) → refusal z a (pass props bars kinds numbers) ≡ 0 → Passable z a props
unfolding later
passable z a props bars kinds numbers q =
    let f = free z a (pass props bars kinds numbers) refl q in
    let h₁ = none-fits _ 15 _ (omega arith) f.later in
    let h₂ = none-fits _ 16 _ (omega arith) h₁.1 in
    let h₃ = none-fits _ 28 _ (omega arith) h₂.1 in
    let h₄ = none-fits _ 18 _ (omega arith) h₃.1 in
    record { stood = f.stood; room = ltb-false _ _ h₄.0; fits = h₂.0; unmerged = h₃.0 }

-- if the counted graph is acyclic before the pass, it is acyclic after every candidate, for any proposals and bars, refused passes among them
pub pass_stays_acyclic : (z : Sizes) (a props bars kinds numbers : List ℕ) → mode_in z a ≡ true → counted_loop z a ≡ false → (k : ℕ) → k ≤ cell a (head z 1)
    → counted_loop z (pass_until z a props bars kinds numbers k) ≡ false
unfolding pass_until
pass_stays_acyclic z a props bars kinds numbers m h k l = elim (ℕ_discrete (refusal z a (pass props bars kinds numbers)) 0) [
  | no q ↦ ap (λ (r : Answer × List ℕ). counted_loop z r.1) (turned_refused (refusal z a (pass props bars kinds numbers)) a _ q) ∙ h
  | yes q ↦
      let c = passable z a props bars kinds numbers q in
      let o = ordered z a c.stood in
      ap (λ (r : Answer × List ℕ). counted_loop z r.1) (turned-free (refusal z a (pass props bars kinds numbers)) a _ q)
      ∙ held-free z _ _ (pass_holds z a c.stood c.room props bars c.fits c.unmerged k l).graph
      (passed-kept o c.room props bars c.fits c.unmerged k l).ordered (passed_loopless o m c.room props bars c.fits c.unmerged (free-take z a o h) k l)
]

-- an answer that warns
unfoldable pub warned : Answer → Bool
warned done = false
warned (refused n) = false
warned (says b) = b
warned (chunk x) = false
warned nothing = false
warned (lists k n) = false

-- The calls that close no loop: all but those that store dependencies anew, and merges that the warning speaks against.
unfoldable pub heeding : Sizes → List ℕ → Call → Bool
heeding z a (init_module_assignment m set effs) = true
heeding z a (add_module_to_chunk m x effs) = true
heeding z a (register_chunk_graph_index k x) = true
heeding z a (to_temp_idx k) = true
heeding z a (calc_chunk_dependencies starts deps) = false
heeding z a (would_create_circular_dependency s t) = true
heeding z a (is_reachable x y) = true
heeding z a (merge_chunk_dependencies t s) = not (warned (step z a (would_create_circular_dependency s t)).0)
heeding z a (pass props bars kinds numbers) = true

-- each call of a list, on the area that it is lent
unfoldable pub all_heeding : Sizes → List ℕ → List Call → Bool
all_heeding z a [] = true
all_heeding z a (c ∷ l) = heeding z a c && all_heeding z (step z a c).1 l

-- no call changes the mode
module _ (z : Sizes) (a : List ℕ) where
  graph_mode : (c : Call) → refusal z a c ≡ 0 → (acted z (read z a) c).1.mode ≡ mode_in z a
  unfolding acted assigned_to appended opened registered calculated merged
  graph_mode (init_module_assignment k set effs) q = go (eqb (chunk_of (value set) (sets-in z a)) None)
    where
      go : (b : Bool) → (cond b (appended effs (opened (read z a) (value set)) (cell a (head z 1)) k) (appended effs (read z a) (chunk_of (value set) (sets-in z a)) k)).mode ≡ mode_in z a
      go true = refl
      go false = refl
  graph_mode (add_module_to_chunk k x effs) q = refl
  graph_mode (register_chunk_graph_index k x) q = refl
  graph_mode (to_temp_idx k) q = refl
  graph_mode (calc_chunk_dependencies starts deps) q = refl
  graph_mode (would_create_circular_dependency s t) q = refl
  graph_mode (is_reachable x y) q = refl
  graph_mode (merge_chunk_dependencies t s) q = refl
  graph_mode (pass props bars kinds numbers) q =
      let c = passable z a props bars kinds numbers q in
      (passed-kept (ordered z a c.stood) c.room props bars c.fits c.unmerged (cell a (head z 1)) (omega arith)).mode

  pub step_mode : (c : Call) → mode_in z (step z a c).1 ≡ mode_in z a
  step_mode c = elim (ℕ_discrete (refusal z a c) 0) [
    | no q ↦ ap (mode_in z) (stuck_step z a c q)
    | yes q ↦ ap (λ (r : Answer × List ℕ). mode_in z r.1) (free_step z a c q) ∙ ap (λ (g : Graph). g.mode) (write-holds z a c q).graph ∙ graph_mode c q
  ]

-- `calc_chunk_dependencies` isn't among them: two modules that depend on each other, each in a chunk of its own
abbrev two_modules : Graph
two_modules = record {
  initial = 2;
  made = 2;
  created = 0;
  depends = λ x y. false;
  effects = λ x. false;
  needs = λ x. false;
  log = (0, 0) ∷ (1, 1) ∷ [];
  sets = [];
  home = λ k. cond (ltb k 2) k None;
  keys = λ k. None;
  mode = true;
  into = λ x. None;
}

pub calculating_may_close : (cyclic (counts two_modules) (below 2) ≡ false) × (cyclic (counts (calculated two_modules (0 ∷ 1 ∷ 2 ∷ []) (1 ∷ 0 ∷ []))) (below 2) ≡ true)
unfolding calculated listed_on module_on counted ending cyclic via any below
calculating_may_close = (refl, refl)
