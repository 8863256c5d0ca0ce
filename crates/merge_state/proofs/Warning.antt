-- Theorems on the definitions of specs/Warning: they stand here, so that the crate can be read with a definition changed. Assumes nothing.
use Rattle.std.specs.Prelude.{ℕ, ◌≡◌, ◌⊎◌, ◌↔◌, ◌&&◌}
use Rattle.std.proofs.Math.Decide.{ℕ_discrete}
use Rattle.std.proofs.Math.Path.{refl, sym}
use Rattle.std.proofs.Common.{◌∙◌}
use Rattle.std.proofs.Math.Logic.{inl, inr, ⊎_elim}
use Rattle.std.proofs.Math.Bool.{true}
use Rattle.graphs.specs.Bools.{or_left, or_right, and_both}
use Rattle.graphs.specs.Lists.{some_give}
use Rattle.graphs.specs.Walk.{Walk, one, more}
use Rattle.graphs.specs.Walks.{join}
use Rattle.merge_state.specs.State.{Graph}
use Rattle.graph_walks.specs.ClosedLaws.{closed-first, closed-next}
use Rattle.merge_state.specs.Methods.{warns}
use Rattle.merge_state.specs.Warning.{fused, Sound, Looped, fuse_ends, fuse_cases, First, In, Bad, warned}
use Rattle.merge_state.specs.Warning as warning_here

module _ (g : Graph) (v : Sound g) (s t : ℕ) (differ : s ≡ t → ⊥) where
  first_in : (x : ℕ) → (warning_here.First g v s t differ) x → (warning_here.In g v s t differ) x ≡ true
  unfolding warning_here.First warning_here.In
  first_in x h = closed-first g.depends g.made s t x (⊎_elim (v.to s x) (v.to t x) h) h

  next_in : (x y : ℕ) → (warning_here.In g v s t differ) x ≡ true → g.depends x y ≡ true → (warning_here.In g v s t differ) y ≡ true
  unfolding warning_here.In
  next_in = closed-next g.depends g.made s t v.from

  target_in : (warning_here.In g v s t differ) t ≡ true → warns g.depends g.made s t ≡ true
  unfolding warns warning_here.In
  target_in h = or_left _ _ h

  member_on : (x : ℕ) → (warning_here.In g v s t differ) x ≡ true → g.depends x s ≡ true → warns g.depends g.made s t ≡ true
  unfolding warns warning_here.In
  member_on x h e = or_right ((warning_here.In g v s t differ) t) _ (some_give (λ x. (warning_here.In g v s t differ) x && g.depends x s) g.made x (v.from x s e) (and_both _ _ h e))

  -- a member of the closed union that isn't the target, with a walk of the fused graph to the target
  homing : {x y : ℕ} → (warning_here.In g v s t differ) x ≡ true → (x ≡ t → ⊥) → y ≡ t → Walk (fused g.depends s t) x y → warns g.depends g.made s t ≡ true
  homing c n q (one {x} {y} h) =
      ⊎_elim (λ a. target_in (next_in x t c (rw q at a))) (λ k. ⊎_elim (λ p. absurd (n p.0)) (λ p. member_on x c p.1) k) (fuse_cases g.depends s t x y h)
  homing c n q (more {x} {y = z} h w) = elim (ℕ_discrete z t) [
    | yes p ↦ ⊎_elim (λ a. target_in (next_in x t c (rw p at a))) (λ k. ⊎_elim (λ l. absurd (n l.0)) (λ l. member_on x c l.1) k) (fuse_cases g.depends s t x z h)
    | no p ↦ homing (next_in x z c (⊎_elim (λ a. a) (λ k. ⊎_elim (λ l. absurd (n l.0)) (λ l. absurd (p l.0)) k) (fuse_cases g.depends s t x z h))) p q w
  ]

  leaving : {x y : ℕ} → x ≡ t → y ≡ t → Walk (fused g.depends s t) x y → warns g.depends g.made s t ≡ true
  unfolding warning_here.First
  leaving p q (one {x} {y} h) = absurd ((fuse_ends g.depends s t x y h).0 (p ∙ sym q))
  leaving p q (more {x} {y = z} h w) =
      homing (first_in z (⊎_elim (λ a. inr (rw p at a)) (λ k. ⊎_elim (λ l. inl l.1) (λ l. absurd ((fuse_ends g.depends s t x z h).0 (p ∙ sym l.0))) k) (fuse_cases g.depends s t x z h)))
      (λ i. (fuse_ends g.depends s t x z h).0 (p ∙ sym i)) q w

  -- the warning is yes exactly when the source depends directly on the target or the two fused lie on a cycle with another chunk
  pub warning_exactly : (warns g.depends g.made s t ≡ true) ↔ ((g.depends s t ≡ true) ⊎ Looped g s t)
  unfolding warning_here.Bad warning_here.First
  warning_exactly = ((warning_here.warned g v s t differ), λ b. ⊎_elim (λ e. target_in (first_in t (inl e))) (λ (l : Looped g s t). leaving refl refl (join l.out l.back)) b)
