-- Demand 2 of the merge graph: what the warning says. Assumes nothing.
use Rattle.std.specs.Prelude.{ℕ, ◌≡◌, ◌⊎◌, ◌↔◌, Bool, true, false, List}
use Rattle.std.proofs.Common.{arith, sym, ap, subst, ◌∙◌}
use Rattle.std.proofs.Math.Path.{refl}
use borrow.Author.Tests.{eqb-false}
use Rattle.merge_state.specs.declared.Sizes.{Sizes}
use Rattle.graphs.specs.Walk.{Walk, one, more}
use Rattle.graphs.specs.Walks.{join}
use Rattle.merge_state.specs.State.{Graph}
use Rattle.merge_state.specs.Merges.{counts}
use Rattle.merge_state.specs.Methods.{warns, warn}
use Rattle.merge_state.specs.Warning.{Looped, fused, fuse_ends}
use Rattle.merge_state.proofs.Warning.{warning_exactly}
use Rattle.merge_state.specs.Table.{says, would_create_circular_dependency, later, acted}
use Rattle.merge_state.specs.Kept.{none-fits}
use Rattle.merge_area.specs.Read.{depends_in, mode_in, read}
use Rattle.merge_area.specs.Layout.{cell, head}
use Rattle.merge_area.specs.Calls.{step}
use Rattle.merge_laws.specs.Rows.{Stood, free}
use Rattle.merge_laws.specs.Ordering.{ordered}
use Rattle.demands.specs.MergeRefused.{is_refused, unrefused_row, free_step}
use Rattle.demands.specs.MergeCounted.{warn_walk}

-- says tells the answers yes and no apart
yes-only : (b : Bool) → says b ≡ says true → b ≡ true
yes-only b h = cc

module _ (z : Sizes) (a : List ℕ) (source target : ℕ) where
  -- an unrefused question: its answer, and what its rows leave
  asked : is_refused (step z a (would_create_circular_dependency source target)).0 ≡ false
      → ((step z a (would_create_circular_dependency source target)).0 ≡ says (warn (read z a) source target)) × Stood z a × (source ≡ target → ⊥)
  unfolding later acted
  asked u =
      let c = would_create_circular_dependency source target in
      let f = free z a c refl (unrefused_row z a c u) in
      let h₁ = none-fits _ 16 _ (omega arith) f.later in
      let h₂ = none-fits _ 20 _ (omega arith) h₁.1 in
      (ap (λ r. r.0) (free_step z a c (unrefused_row z a c u)), f.stood, eqb-false source target h₂.0)

-- the merge warning is yes exactly when the source depends directly on the target or the two fused lie on a cycle with another chunk,
-- of the graph that the area holds, where merged chunks don't stand for their target. An inconsistent area is refused, by row 21.
pub warning_on_areas : (z : Sizes) (a : List ℕ) (source target : ℕ) → mode_in z a ≡ false
    → let answer = (step z a (would_create_circular_dependency source target)).0 in
    is_refused answer ≡ false → (answer ≡ says true) ↔ ((depends_in z a source target ≡ true) ⊎ Looped (read z a) source target)
unfolding warn
warning_on_areas z a source target m u =
    let q = asked z a source target u in
    let e : (step z a (would_create_circular_dependency source target)).0 ≡ says (warns (depends_in z a) (cell a (head z 1)) source target) = q.0 ∙ (rw m refl) in
    let w = warning_exactly (read z a) (ordered z a q.1).sound source target q.2 in
    (λ k. w.0 (yes-only (warns (depends_in z a) (cell a (head z 1)) source target) (sym e ∙ k)), λ b. e ∙ ap says (w.1 b))

-- another chunk lies with the fused one on a closed walk of the fused graph of the dependencies that count
pub record CountedLoop (g : Graph) (s t : ℕ) : Type 0 where
  pub other : ℕ
  pub differs : other ≡ t → ⊥
  pub out : Walk (fused (counts g) s t) t other
  pub back : Walk (fused (counts g) s t) other t

module _ (d : ℕ → ℕ → Bool) (s t : ℕ) where
  -- a closed walk of the fused graph passes another chunk
  passing : {x y : ℕ} → x ≡ t → y ≡ t → Walk (fused d s t) x y → (o : ℕ) × (o ≡ t → ⊥) × Walk (fused d s t) t o × Walk (fused d s t) o t
  passing p q (one {x} {y} h) = absurd ((fuse_ends d s t x y h).0 (p ∙ sym q))
  passing p q (more {x} {y = z} {z = y} h w) =
      (z, (λ r. (fuse_ends d s t x z h).0 (p ∙ sym r)), one (subst (λ v. fused d s t v z ≡ true) p h), subst (λ e. Walk (fused d s t) z e) q w)

-- the warning is yes exactly when the fused chunk lies on a cycle with another, of the dependencies that count, where merged chunks stand for their
-- target; a direct dependency alone doesn't warn
pub mode_warning_on_areas : (z : Sizes) (a : List ℕ) (source target : ℕ) → mode_in z a ≡ true
    → let answer = (step z a (would_create_circular_dependency source target)).0 in
    is_refused answer ≡ false → (answer ≡ says true) ↔ CountedLoop (read z a) source target
mode_warning_on_areas z a source target m u =
    let q = asked z a source target u in
    let g = read z a in
    let w = warn_walk (ordered z a q.1) source target m q.2 in (
      (λ k.
          let p = passing (counts g) source target refl refl (w.0 (yes-only (warn g source target) (sym q.0 ∙ k))) in
          record { other = p.0; differs = p.1; out = p.2; back = p.3 }),
      λ (l : CountedLoop g source target). q.0 ∙ ap says (w.1 (join l.out l.back)),
    )
