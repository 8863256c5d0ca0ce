-- Demand 1 of the merge graph: a refusal changes no lent memory. Assumes nothing.
use Prim.Native.Nat.{ℕ, zero, suc}
use Rattle.std.specs.Prelude.{◌≡◌, Bool, true, false, not, cond, ◌&&◌, eqb, ltb}
use Rattle.std.proofs.Math.Path.{refl, ap}
use Rattle.std.proofs.Common.{sym, ◌∙◌, true≢false}
use mathlib.Core.List.{List}
use Rattle.merge_state.specs.declared.Sizes.{Sizes}
use Rattle.merge_state.specs.State.{None, Graph}
use Rattle.merge_state.specs.Table.{Call, init_module_assignment, add_module_to_chunk, register_chunk_graph_index, to_temp_idx, calc_chunk_dependencies, would_create_circular_dependency, is_reachable, merge_chunk_dependencies, pass}
use Rattle.merge_state.specs.Table.{Answer, done, refused, says, chunk, nothing, lists, acted, turned}
use Rattle.merge_area.specs.Read.{read}
use Rattle.merge_area.specs.Writes.{write}
use Rattle.merge_area.specs.Calls.{refusal, step, lists_after}
use Rattle.merge_state.specs.Loading.{Lent}
use Rattle.merge_laws.specs.Rows.{turned_refused, turned-free}
use Rattle.merge_loading.specs.Loading.{loaded_area, load_refusal, load_step}

unfoldable pub is_refused : Answer → Bool
is_refused done = false
is_refused (refused n) = true
is_refused (says b) = false
is_refused (chunk x) = false
is_refused nothing = false
is_refused (lists k n) = false

-- a call that acts doesn't answer with a refusal
acts : (z : Sizes) (g : Graph) (c : Call) → is_refused (acted z g c).0 ≡ false
unfolding acted is_refused
acts z g (init_module_assignment m s effs) = refl
acts z g (add_module_to_chunk m x effs) = refl
acts z g (register_chunk_graph_index k x) = refl
acts z g (to_temp_idx k) = found (ltb k z.chunks && not (eqb (g.keys k) None))
  where
    found : (b : Bool) → is_refused (cond b (chunk (g.keys k)) nothing) ≡ false
    found true = refl
    found false = refl
acts z g (calc_chunk_dependencies starts deps) = refl
acts z g (would_create_circular_dependency s t) = refl
acts z g (is_reachable x y) = refl
acts z g (merge_chunk_dependencies t s) = refl
acts z g (pass props bars kinds numbers) = refl

-- a refusal leaves the area
kept : (a : List ℕ) (q : ℕ) (r : Answer × List ℕ) → is_refused r.0 ≡ false → is_refused (turned q a r).0 ≡ true → (turned q a r).1 ≡ a
unfolding turned
kept a zero r p h = absurd (true≢false (sym h ∙ p))
kept a (suc n) r p h = refl

-- a call is refused exactly where a row fits
module _ (z : Sizes) (a : List ℕ) (c : Call) where
  zero_row : (q : ℕ) (r : Answer × List ℕ) → is_refused (turned q a r).0 ≡ false → q ≡ 0
  unfolding turned is_refused
  zero_row zero r h = refl
  zero_row (suc n) r h = absurd (true≢false h)

  pub unrefused_row : is_refused (step z a c).0 ≡ false → refusal z a c ≡ 0
  unfolding step
  unrefused_row h = zero_row (refusal z a c) _ h

  -- what it answers and leaves then
  pub free_step : refusal z a c ≡ 0 → step z a c ≡ ((acted z (read z a) c).0, write z a c)
  unfolding step
  free_step h = turned-free (refusal z a c) a _ h

  pub stuck_step : (refusal z a c ≡ 0 → ⊥) → (step z a c).1 ≡ a
  unfolding step
  stuck_step h = ap (λ (r : Answer × List ℕ). r.1) (turned_refused (refusal z a c) a _ h)

  -- a refusal changes no lent memory: the area
  pub refused_merge-call : is_refused (step z a c).0 ≡ true → (step z a c).1 ≡ a
  unfolding step
  refused_merge-call h = kept a (refusal z a c) _ (acts z (read z a) c) h

-- the same of a loading
module _ (z : Sizes) (n : Lent) (a : List ℕ) where
  pub refused_merge-loading : is_refused (load_step z n a).0 ≡ true → (load_step z n a).1 ≡ a
  unfolding load_step is_refused
  refused_merge-loading h = kept a (load_refusal z n a) (done, loaded_area z n a) refl h

-- and the two lists that the pass writes. Every other list is lent for reading only
pub refused_lists : (answer : Answer) (l : List ℕ × List ℕ) → is_refused answer ≡ true → lists_after answer l ≡ l
unfolding is_refused lists_after
refused_lists done l h = refl
refused_lists (refused n) l h = refl
refused_lists (says b) l h = refl
refused_lists (chunk x) l h = refl
refused_lists nothing l h = refl
refused_lists (lists k n) l h = absurd (true≢false (sym h))
