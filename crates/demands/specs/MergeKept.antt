-- Every call leaves the graph that its method says, and a consistent area: row 21 can't fit within a list. Assumes nothing.
use Rattle.std.specs.Prelude.{ℕ, ◌^◌, ◌<◌, ◌≡◌, refl, false, List, [], ◌∷◌, length, eqb, leb}
use Rattle.std.proofs.Common.{arith, sym, ap, subst, ◌∙◌, ltb-true, ltb-false}
use Rattle.std.proofs.Math.Decide.{ℕ_discrete}
use Rattle.std.proofs.lemmas.Bool.{not-false}
use Rattle.graphs.specs.Bools.{or_false_right, and_right}
use Rattle.entry_set.specs.Sets.{value, width}
use Rattle.entry_set.specs.SetLaws.{below_256}
use Rattle.merge_state.specs.declared.Sizes.{Sizes}
use Rattle.merge_state.specs.State.{flag}
use Rattle.merge_state.specs.Table.{Call, init_module_assignment, add_module_to_chunk, register_chunk_graph_index, to_temp_idx, calc_chunk_dependencies, would_create_circular_dependency, is_reachable, merge_chunk_dependencies, pass, later, acted}
use Rattle.merge_state.specs.Kept.{none-fits}
use Rattle.merge_state.proofs.Kept.{acted-kept}
use Rattle.merge_state.specs.Ordered.{Ordered}
use Rattle.merge_area.specs.Layout.{cell, head}
use Rattle.merge_area.specs.Read.{read}
use Rattle.merge_area.specs.Writes.{write}
use Rattle.merge_area.specs.Consistent.{short, inconsistent}
use Rattle.merge_area.specs.Calls.{refusal, step, ends}
use Rattle.merge_laws.specs.Rows.{free, may-register}
use Rattle.merge_laws.specs.Ordering.{ordered}
use Rattle.merge_laws.specs.May.{may_add, may_init, may_calc, may-merge}
use Rattle.demands.specs.MergeRefused.{free_step, stuck_step}
use Rattle.merge_reads.specs.Order.{ordered_consistent}
use Rattle.merge_reads.specs.Cells.{area_length, read-merge}
use Rattle.merge_reads.specs.Reads.{register-length, read-register, append_length, read_append, init_length, read_init}
use Rattle.merge_reads.specs.Calc.{calc_length, read_calc}
use Rattle.merge_reads.specs.Pass.{Holds, pass_holds}

-- an unrefused call leaves the graph that its method says, in an area of the same length
pub write-holds : (z : Sizes) (a : List ℕ) (c : Call) → refusal z a c ≡ 0 → Holds z a (write z a c) (acted z (read z a) c).1
unfolding write acted later
write-holds z a (init_module_assignment m set effs) h =
    let f = free z a (init_module_assignment m set effs) refl h in
    let c = (may_init z a m set effs refl h).0 in
    let hd = f.stood.headed in
    let h₁ = none-fits _ 16 _ (omega arith) f.later in
    let fits : value set < 2 ^ z.bits = ltb-true _ _ (and_right (eqb (length set) (width z.bits)) _ (not-false _ (or_false_right (leb z.modules m) _ h₁.0))) in
    record {
      graph = read_init z a m (value set) effs c (below_256 hd.within.bits fits) (omega (arith, hd.named, hd.fits));
      same = init_length z a m (value set) effs c (flag effs m);
    }
write-holds z a (add_module_to_chunk m x effs) h =
    let hd = (free z a (add_module_to_chunk m x effs) refl h).stood.headed in
    let c = (may_add z a m x effs refl h).0 in
    record { graph = read_append z a x m effs c (omega (arith, hd.named, hd.fits)); same = append_length z a x m (flag effs m) }
write-holds z a (register_chunk_graph_index k x) h =
    let hd = (free z a (register_chunk_graph_index k x) refl h).stood.headed in
    let c = may-register z a k x refl h in
    record { graph = read-register z a k x c.1 c.2 (omega (arith, hd.named, hd.fits)); same = register-length z a k x c.1 c.2 }
write-holds z a (to_temp_idx k) h = record { graph = refl; same = refl }
write-holds z a (calc_chunk_dependencies starts deps) h =
    let c = (may_calc z a starts deps refl h).0 in
    record { graph = read_calc z starts deps a c; same = calc_length z starts deps a c }
write-holds z a (would_create_circular_dependency s t) h = record { graph = refl; same = refl }
write-holds z a (is_reachable x y) h = record { graph = refl; same = refl }
write-holds z a (merge_chunk_dependencies t s) h =
    let hd = (free z a (merge_chunk_dependencies t s) refl h).stood.headed in
    let c = may-merge z a t s refl h in
    record { graph = read-merge z a t s c (omega (arith, hd.named, hd.fits)); same = area_length z a t s c }
write-holds z a (pass props bars kinds numbers) h =
    let f = free z a (pass props bars kinds numbers) refl h in
    let h₁ = none-fits _ 15 _ (omega arith) f.later in
    let h₂ = none-fits _ 16 _ (omega arith) h₁.1 in
    let h₃ = none-fits _ 28 _ (omega arith) h₂.1 in
    let h₄ = none-fits _ 18 _ (omega arith) h₃.1 in
    pass_holds z a f.stood (ltb-false _ _ h₄.0) props bars h₂.0 h₃.0 (cell a (head z 1)) (omega arith)

-- a call, refused or not, leaves a consistent area consistent, and as long as it was
module _ (z : Sizes) (a : List ℕ) (c : Call) where
  pub step-length : length (step z a c).1 ≡ length a
  step-length = elim (ℕ_discrete (refusal z a c) 0) [
    | yes q ↦ ap (λ r. length r.1) (free_step z a c q) ∙ (write-holds z a c q).same
    | no q ↦ ap (λ r. length r) (stuck_step z a c q)
  ]

  pub write-consistent : refusal z a c ≡ 0 → inconsistent z (write z a c) ≡ false
  write-consistent q =
      let f = free z a c refl q in
      ordered_consistent z (write z a c) (subst (Ordered z) (sym (write-holds z a c q).graph) (acted-kept z (read z a) c (ordered z a f.stood) f.later))

  pub step-consistent : inconsistent z a ≡ false → inconsistent z (step z a c).1 ≡ false
  step-consistent h = elim (ℕ_discrete (refusal z a c) 0) [
    | yes q ↦ ap (λ r. inconsistent z r.1) (free_step z a c q) ∙ write-consistent q
    | no q ↦ ap (inconsistent z) (stuck_step z a c q) ∙ h
  ]

-- and so do lists of calls, where each is lent the area as the last one left it: so row 21 can't fit within a list that starts from a consistent
-- area. The area's part of row 15 fits at every call of a list or at none (`ends-short`).
pub ends-consistent : (z : Sizes) (a : List ℕ) (calls : List Call) → inconsistent z a ≡ false → inconsistent z (ends z a calls) ≡ false
unfolding ends
ends-consistent z a [] h = h
ends-consistent z a (c ∷ l) h = ends-consistent z (step z a c).1 l (step-consistent z a c h)

pub ends-length : (z : Sizes) (a : List ℕ) (calls : List Call) → length (ends z a calls) ≡ length a
unfolding ends
ends-length z a [] = refl
ends-length z a (c ∷ l) = ends-length z (step z a c).1 l ∙ step-length z a c

pub ends-short : (z : Sizes) (a : List ℕ) (calls : List Call) → short z (ends z a calls) ≡ short z a
unfolding short
ends-short z a calls = rw (ends-length z a calls)
