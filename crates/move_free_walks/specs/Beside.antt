-- The two walks by the graph that still has the node z: a step after what z reaches, a step before what reaches z. Assumes nothing.
use Rattle.std.specs.Prelude.{ℕ, ◌≡◌, refl, ◌⊎◌, ◌↔◌, Bool, true}
use Rattle.std.proofs.Math.Decide.{ℕ_discrete}
use Rattle.std.proofs.Common.{sym, subst, inl, inr}
use Rattle.graphs.specs.Walk.{Walk, one, more}
use Rattle.graphs.specs.Walks.{join}
use Rattle.move_free_walks.specs.Joins.{cut, cut_edge, edge-cut, Upto, Ahead, Behind, longer, lift}
use Rattle.move_free_walks.specs.Present.{then-more, last_step, first_step}

module _ (e : ℕ → ℕ → Bool) (z : ℕ) where
  kept : (x y : ℕ) → cut e z x y ≡ true → e x y ≡ true
  kept x y h = (cut_edge e z x y h).0

  -- a walk to another node leaves z for the last time, or never comes to it
  leaving : {x y : ℕ} → (y ≡ z → ⊥) → Walk e x y → ((x ≡ z → ⊥) × Walk (cut e z) x y) ⊎ ((c : ℕ) × (e z c ≡ true) × Upto (cut e z) c y)
  leaving {x} {y} n (one h) = pick (ℕ_discrete x z)
    where
      pick : Dec (x ≡ z) → ((x ≡ z → ⊥) × Walk (cut e z) x y) ⊎ ((c : ℕ) × (e z c ≡ true) × Upto (cut e z) c y)
      pick (yes q) = inr (y, subst (λ k. e k y ≡ true) q h, inl refl)
      pick (no q) = inl (q, one (edge-cut e z x y h q n))
  leaving {x} {y} n (more {y = m} h p) = pick (ℕ_discrete x z) (leaving n p)
    where
      pick : Dec (x ≡ z) → ((m ≡ z → ⊥) × Walk (cut e z) m y) ⊎ ((c : ℕ) × (e z c ≡ true) × Upto (cut e z) c y)
          → ((x ≡ z → ⊥) × Walk (cut e z) x y) ⊎ ((c : ℕ) × (e z c ≡ true) × Upto (cut e z) c y)
      pick d (inr r) = inr r
      pick (yes q) (inl (k, w)) = inr (m, subst (λ k. e k m ≡ true) q h, inr w)
      pick (no q) (inl (k, w)) = inl (q, more (edge-cut e z x m h q k) w)

  -- a walk to z from another node comes to it for the first time
  arriving : {x y : ℕ} → (x ≡ z → ⊥) → y ≡ z → Walk e x y → (d : ℕ) × (e d z ≡ true) × Upto (cut e z) x d
  arriving {x} n q (one h) = (x, subst (λ k. e x k ≡ true) q h, inl refl)
  arriving {x} n q (more {y = m} h p) = pick (ℕ_discrete m z) (λ k. arriving k q p)
    where
      pick : Dec (m ≡ z) → ((m ≡ z → ⊥) → (d : ℕ) × (e d z ≡ true) × Upto (cut e z) m d) → (d : ℕ) × (e d z ≡ true) × Upto (cut e z) x d
      pick (yes r) f = (x, subst (λ k. e x k ≡ true) r h, inl refl)
      pick (no r) f = let g = f r in (g.0, g.1, inr (longer (edge-cut e z x m h n r) g.2))

  -- reached from what z leads to, without z: a step without z after a node that z reaches
  pub ahead-by : (X : ℕ) → Ahead (cut e z) (e z) X ↔ ((y : ℕ) × (cut e z y X ≡ true) × Walk e z y)
  ahead-by X = (there, back)
    where
      from : (c y : ℕ) → e z c ≡ true → Upto (cut e z) c y → Walk e z y
      from c y o (inl q) = one (subst (λ k. e z k ≡ true) q o)
      from c y o (inr u) = more o (lift kept u)

      there : Ahead (cut e z) (e z) X → (y : ℕ) × (cut e z y X ≡ true) × Walk e z y
      there (c, o, w) = let r = last_step w in (r.0, r.1, from c r.0 o r.2)

      pick : (y : ℕ) → cut e z y X ≡ true → ((z ≡ z → ⊥) × Walk (cut e z) z y) ⊎ ((c : ℕ) × (e z c ≡ true) × Upto (cut e z) c y) → Ahead (cut e z) (e z) X
      pick y h (inl (k, w)) = absurd (k refl)
      pick y h (inr (c, o, u)) = (c, o, then-more u (one h))

      back : (y : ℕ) × (cut e z y X ≡ true) × Walk e z y → Ahead (cut e z) (e z) X
      back (y, h, w) = pick y h (leaving (cut_edge e z y X h).1 w)

  -- reaching what leads to z, without z: a step without z before a node that reaches z
  pub behind_by : (X : ℕ) → Behind (cut e z) (λ x. e x z) X ↔ ((y : ℕ) × (cut e z X y ≡ true) × Walk e y z)
  behind_by X = (there, back)
    where
      to : (y d : ℕ) → e d z ≡ true → Upto (cut e z) y d → Walk e y z
      to y d o (inl q) = one (subst (λ k. e k z ≡ true) (sym q) o)
      to y d o (inr u) = join (lift kept u) (one o)

      there : Behind (cut e z) (λ x. e x z) X → (y : ℕ) × (cut e z X y ≡ true) × Walk e y z
      there (d, o, w) = let r = first_step w in (r.0, r.1, to r.0 d o r.2)

      back : (y : ℕ) × (cut e z X y ≡ true) × Walk e y z → Behind (cut e z) (λ x. e x z) X
      back (y, h, w) = let r = arriving (cut_edge e z X y h).2 refl w in (r.0, r.1, longer h r.2)

  -- leading to z, or reaching without z what does: reaching z
  pub met_by : (c : ℕ) → (c ≡ z → ⊥) → ((e c z ≡ true) ⊎ Behind (cut e z) (λ x. e x z) c) ↔ Walk e c z
  met_by c n = (there, λ w. let r = arriving n refl w in back r.0 r.1 r.2)
    where
      there : (e c z ≡ true) ⊎ Behind (cut e z) (λ x. e x z) c → Walk e c z
      there (inl h) = one h
      there (inr (d, o, w)) = join (lift kept w) (one o)

      back : (d : ℕ) → e d z ≡ true → Upto (cut e z) c d → (e c z ≡ true) ⊎ Behind (cut e z) (λ x. e x z) c
      back d o (inl q) = inl (subst (λ k. e k z ≡ true) (sym q) o)
      back d o (inr u) = inr (d, o, u)
