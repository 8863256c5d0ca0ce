-- Counted dependencies: what a merge makes of them, and what the warning says of them. Assumes nothing.
use Rattle.std.specs.Prelude.{ℕ, ◌<◌, ◌≡◌, Bool, ◌&&◌}
use Rattle.std.proofs.Math.Path.{refl, sym, ap, fun_ext}
use Rattle.std.proofs.Common.{ap₂, ◌∙◌, ⊎_elim, eqb-true}
use Rattle.std.proofs.Math.Bool.{true, false, not}
use Rattle.std.proofs.Math.Dec.{eqb}
use Rattle.graphs.specs.Bools.{and_both, alike}
use Rattle.graphs.specs.Walk.{Walk}
use Rattle.graphs.specs.Walks.{join}
use Rattle.graphs.specs.Walks as walks
use Rattle.graph_walks.specs.Counted.{counted, without, counted_give, counted-take}
use Rattle.merge_state.specs.Warning.{fused, fuse_cases}

-- an edge between equal nodes
pub moved : (f : ℕ → ℕ → Bool) {a b x y : ℕ} → a ≡ x → b ≡ y → f a b ≡ true → f x y ≡ true
moved f p q h = sym (ap₂ f p q) ∙ h

-- the ends of the first n chunks decide
pub counted-ends : (d : ℕ → ℕ → Bool) (e f : ℕ → ℕ) (n : ℕ) → ((x : ℕ) → x < n → e x ≡ f x) → counted d e n ≡ counted d f n
counted-ends d e f n q = fun_ext (λ x. fun_ext (λ y. alike _ _ (go e f q x y) (go f e (λ x b. sym (q x b)) x y)))
  where
    go : (e f : ℕ → ℕ) → ((x : ℕ) → x < n → e x ≡ f x) → (x y : ℕ) → counted d e n x y ≡ true → counted d f n x y ≡ true
    go e f q x y h =
        let r = counted-take d e n x y h in
        let a : f r.source ≡ x = sym (q r.source r.source_in) ∙ r.from in
        let b : f r.target ≡ y = sym (q r.target r.target_in) ∙ r.to in
        moved (counted d f n) a b (counted_give d f n r.source r.target r.source_in r.target_in r.edge (λ g. r.differ (sym a ∙ g ∙ b)))

-- Fusing two nodes of a graph without cycles gives one without cycles, unless the fused node lies on a cycle with another
pub fused_acyclic : (d : ℕ → ℕ → Bool) (s t : ℕ) → ((x : ℕ) → Walk d x x → ⊥) → (Walk (fused d s t) t t → ⊥) → (x : ℕ) → Walk (fused d s t) x x → ⊥
fused_acyclic d s t none unwarned x w = ⊎_elim (none x) (λ p. unwarned (join p.1 p.0)) (walks.closed t keep x w)
  where
    keep : (x y : ℕ) → (x ≡ t → ⊥) → (y ≡ t → ⊥) → fused d s t x y ≡ true → d x y ≡ true
    keep x y a b h = ⊎_elim (λ c. c) (λ c. ⊎_elim (λ p. absurd (a p.0)) (λ p. absurd (b p.0)) c) (fuse_cases d s t x y h)

-- The warning of the mode: the rule of the other mode, with the direct dependency of source on target left out.
module _ (d : ℕ → ℕ → Bool) (n s t : ℕ) (self : (x : ℕ) → d x x ≡ false) (from : (x y : ℕ) → d x y ≡ true → x < n) (to : (x y : ℕ) → d x y ≡ true → y < n) (apart : s ≡ t → ⊥) where
  abbrev pub fewer : ℕ → ℕ → Bool
  fewer = without d s t

  pub keep : (x y : ℕ) → (x ≡ s → y ≡ t → ⊥) → d x y ≡ true → fewer x y ≡ true
  unfolding without
  keep x y a h = and_both _ _ h (ap not (go (eqb x s) refl (eqb y t) refl))
    where
      go : (p : Bool) → eqb x s ≡ p → (q : Bool) → eqb y t ≡ q → (p && q) ≡ false
      go false e q f = refl
      go true e false f = refl
      go true e true f = absurd (a (eqb-true x s e) (eqb-true y t f))

  pub none : (x : ℕ) → fewer x x ≡ false
  unfolding without
  none x = ap (λ b. b && not (eqb x s && eqb x t)) (self x)
