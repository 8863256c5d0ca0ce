-- `warning_exactly`: what the warning says of the fused graph, where merged chunks don't stand for their target. Assumes nothing.
use Rattle.std.specs.Prelude.{ℕ, ◌<◌, ◌≡◌, ◌⊎◌, Bool, false, ◌&&◌, ◌||◌, eqb}
use Rattle.std.proofs.Math.Decide.{ℕ_discrete}
use Rattle.std.proofs.Math.Path.{refl, sym}
use Rattle.std.proofs.Common.{ap, ◌∙◌, true≢false}
use Rattle.std.proofs.Math.Logic.{inl, inr, ⊎_elim}
use Rattle.std.proofs.Math.Bool.{true, not}
use borrow.Author.Tests.{eqb-true, eqb-false, eq-eqb, ne_eqb, not-true}
use Rattle.graphs.specs.Bools.{or_cases, or_left, or_right, and_left, and_right, and_both}
use Rattle.graphs.specs.Lists.{some_below, some_take}
use Rattle.graphs.specs.Walk.{Walk, one}
use Rattle.graphs.specs.Walks.{join}
use Rattle.merge_state.specs.State.{Graph}
use Rattle.graph_walks.specs.Closed.{closed}
use Rattle.graph_walks.specs.ClosedLaws.{closed_all}
use Rattle.merge_state.specs.Methods.{warns}

-- The fused graph: the source's place is taken by the target. An edge between two different nodes, neither of them the source, where a
-- chunk of the first depends on a chunk of the second; the target's chunks are target and source, any other's is itself.
unfoldable pub fused : (ℕ → ℕ → Bool) → ℕ → ℕ → ℕ → ℕ → Bool
fused d s t x y = (not (eqb x y) && (not (eqb x s) && not (eqb y s))) && (d x y || ((eqb x t && d s y) || (eqb y t && d x s)))

-- no self-dependency, and every index in range
pub record Sound (g : Graph) : Type 0 where
  pub self : (x : ℕ) → g.depends x x ≡ false
  pub from : (x y : ℕ) → g.depends x y ≡ true → x < g.made
  pub to : (x y : ℕ) → g.depends x y ≡ true → y < g.made

-- another chunk lies with the fused one on a closed walk of the fused graph
pub record Looped (g : Graph) (s t : ℕ) : Type 0 where
  pub other : ℕ
  pub differs : other ≡ t → ⊥
  pub out : Walk (fused g.depends s t) t other
  pub back : Walk (fused g.depends s t) other t

module _ (d : ℕ → ℕ → Bool) (s t x y : ℕ) where
  pub fuse : (x ≡ y → ⊥) → (x ≡ s → ⊥) → (y ≡ s → ⊥) → (d x y || ((eqb x t && d s y) || (eqb y t && d x s))) ≡ true → fused d s t x y ≡ true
  unfolding fused
  fuse a b c h = and_both _ _ (and_both _ _ (ap not (ne_eqb x y a)) (and_both _ _ (ap not (ne_eqb x s b)) (ap not (ne_eqb y s c)))) h

  pub fuse_ends : fused d s t x y ≡ true → (x ≡ y → ⊥) × (x ≡ s → ⊥) × (y ≡ s → ⊥)
  unfolding fused
  fuse_ends h =
      let k = and_left (not (eqb x y) && (not (eqb x s) && not (eqb y s))) _ h in
      let l = and_right (not (eqb x y)) _ k in
      (eqb-false x y (not-true _ (and_left (not (eqb x y)) _ k)), eqb-false x s (not-true _ (and_left (not (eqb x s)) _ l)), eqb-false y s (not-true _ (and_right (not (eqb x s)) _ l)))

  pub fuse_cases : fused d s t x y ≡ true → (d x y ≡ true) ⊎ (((x ≡ t) × (d s y ≡ true)) ⊎ ((y ≡ t) × (d x s ≡ true)))
  unfolding fused
  fuse_cases h =
      ⊎_elim (λ a. inl a)
      (λ b. inr (⊎_elim (λ p. inl (eqb-true x t (and_left (eqb x t) _ p), and_right (eqb x t) _ p)) (λ p. inr (eqb-true y t (and_left (eqb y t) _ p), and_right (eqb y t) _ p)) (or_cases (eqb x t && d s y) _ b)))
      (or_cases (d x y) _ (and_right (not (eqb x y) && (not (eqb x s) && not (eqb y s))) _ h))

module _ (g : Graph) (v : Sound g) (s t : ℕ) (differ : s ≡ t → ⊥) where
  unfoldable pub First : ℕ → Type 0
  First x = (g.depends s x ≡ true) ⊎ (g.depends t x ≡ true)

  unfoldable pub In : ℕ → Bool
  In = closed g.depends g.made s t

  no_self : {x : ℕ} → g.depends x x ≡ true → ⊥
  no_self {x} h = true≢false (sym h ∙ v.self x)

  in_all : (P : ℕ → Type 0) → ((x : ℕ) → First x → P x) → ((x y : ℕ) → P x → g.depends x y ≡ true → P y) → (x : ℕ) → In x ≡ true → P x
  unfolding First In
  in_all = closed_all g.depends g.made s t

  -- what is to be shown
  unfoldable pub Bad : Type 0
  Bad = (g.depends s t ≡ true) ⊎ Looped g s t

  -- a member of the closed union, if nothing is bad: the source, or reached from the target in the fused graph
  Met : ℕ → Type 0
  Met x = Bad ⊎ ((x ≡ s) ⊎ ((x ≡ s → ⊥) × (x ≡ t → ⊥) × Walk (fused g.depends s t) t x))

  met-first : (x : ℕ) → First x → Met x
  unfolding Met Bad First
  met-first x h = elim (ℕ_discrete x s) [
    | yes q ↦ inr (inl q)
    | no q ↦ elim (ℕ_discrete x t) [
      | yes p ↦ ⊎_elim (λ a. inl (inl (rw p at a))) (λ a. absurd (no_self (rw p at a))) h
      | no p ↦ inr (inr (
        q,
        p,
        one (fuse g.depends s t t x (λ k. p (sym k)) (λ k. differ (sym k)) q
            (⊎_elim (λ a. or_right (g.depends t x) _ (or_left _ _ (and_both _ _ (eq-eqb t t refl) a))) (λ a. or_left _ _ a) h)),
      ))
    ]
  ]

  met_next : (x y : ℕ) → Met x → g.depends x y ≡ true → Met y
  unfolding Met Bad First
  met_next x y m e =
      ⊎_elim (λ b. inl b) (λ n. ⊎_elim (λ (q : x ≡ s). met-first y (inl (rw q at e))) (λ (k : (x ≡ s → ⊥) × (x ≡ t → ⊥) × Walk (fused g.depends s t) t x). far k) n) m
    where
      back : (x ≡ s → ⊥) × (x ≡ t → ⊥) × Walk (fused g.depends s t) t x → (g.depends x t || ((eqb x t && g.depends s t) || (eqb t t && g.depends x s))) ≡ true → Bad
      back k h = inr (record { other = x; differs = k.1; out = k.2; back = one (fuse g.depends s t x t k.1 k.0 (λ i. differ (sym i)) h) })

      far : (x ≡ s → ⊥) × (x ≡ t → ⊥) × Walk (fused g.depends s t) t x → Met y
      far k = elim (ℕ_discrete y s) [
        | yes q ↦ inl (back k (or_right (g.depends x t) _ (or_right (eqb x t && g.depends s t) _ (and_both _ _ (eq-eqb t t refl) (rw q at e)))))
        | no q ↦ elim (ℕ_discrete y t) [
          | yes p ↦ inl (back k (or_left _ _ (rw p at e)))
          | no p ↦ inr (inr (q, p, join k.2 (one (fuse g.depends s t x y (λ i. no_self (rw (← i) at e)) k.0 q (or_left _ _ e)))))
        ]
      ]

  pub warned : warns g.depends g.made s t ≡ true → Bad
  unfolding warns Met Bad In
  warned h = ⊎_elim at_target at-member (or_cases (In t) _ h)
    where
      at_target : In t ≡ true → Bad
      at_target c = ⊎_elim (λ b. b) (λ n. ⊎_elim (λ q. absurd (differ (sym q))) (λ k. absurd (k.1 refl)) n) (in_all Met met-first met_next t c)

      at-member : some_below (λ x. In x && g.depends x s) g.made ≡ true → Bad
      at-member c =
          let r = some_take (λ x. In x && g.depends x s) g.made c in
          let x = r.0 in
          let e = and_right (In x) _ r.2 in
          ⊎_elim (λ b. b)
          (λ n. ⊎_elim (λ q. absurd (no_self (rw q at e)))
          (λ k. inr (record { other = x; differs = k.1; out = k.2; back = one (fuse g.depends s t x t k.1 k.0 (λ i. differ (sym i)) (or_right (g.depends x t) _ (or_right (eqb x t && g.depends s t) _ (and_both _ _ (eq-eqb t t refl) e)))) }))
          n)
          (in_all Met met-first met_next x (and_left (In x) _ r.2))
