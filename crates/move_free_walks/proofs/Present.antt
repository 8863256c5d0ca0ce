-- Theorems on the definitions of specs/Present: they stand here, so that the crate can be read with a definition changed. Assumes nothing.
use Rattle.std.specs.Prelude.{ℕ, ◌≡◌, refl, ◌↔◌, true, false, List, length, set}
use Rattle.std.proofs.Math.Decide.{ℕ_discrete}
use Rattle.std.proofs.Common.{sym, subst, inl, inr, ⊎_elim}
use Rattle.graphs.specs.Walk.{Walk, one, more, cyclic}
use Rattle.graphs.specs.Walks.{join, avoid, acyclic_walk}
use Rattle.move_ledger.specs.Graph.{Load, at, edge}
use Rattle.move_ledger.proofs.GraphLaws.{edge-source}
use Rattle.move_free_walks.specs.Joins.{old, leaves, enters, why_joined, Upto, Ahead, Behind, Fore, Aft}
use Rattle.move_free_walks.specs.Alone.{Alone}
use Rattle.move_free_walks.proofs.Alone.{joined-edge}
use Rattle.move_free_walks.specs.Free.{without, outs, ins, back_now, kept}
use Rattle.move_free_walks.specs.Present.{then-more, more-then, last_step, first_step, lift_upto}

module _ (load : Load) (p : List ℕ) (a Z : ℕ) (n : length p ≡ load.A) (v : Alone load (set p a Z) a Z) (free : cyclic (edge load p) p ≡ false) where
  none : (x : ℕ) → Walk (edge load p) x x → ⊥
  none = (acyclic_walk (edge load p) p (edge-source load p n)).0 free

  up : (x y : ℕ) → without load p a Z x y ≡ true → edge load p x y ≡ true
  up x y t = joined-edge load v (back_now p a Z) x y (why_joined (without load p a Z) (outs load p a Z) (ins load p a Z) (at p a) x y (old t))

  leads : (c : ℕ) → outs load p a Z c ≡ true → (c ≡ at p a → ⊥) → edge load p (at p a) c ≡ true
  leads c o d = joined-edge load v (back_now p a Z) (at p a) c (why_joined (without load p a Z) (outs load p a Z) (ins load p a Z) (at p a) (at p a) c (leaves refl d o))

  led : (c : ℕ) → ins load p a Z c ≡ true → (c ≡ at p a → ⊥) → edge load p c (at p a) ≡ true
  led c o d = joined-edge load v (back_now p a Z) c (at p a) (why_joined (without load p a Z) (outs load p a Z) (ins load p a Z) (at p a) c (at p a) (enters refl d o))

  module _ (X : ℕ) (d : X ≡ at p a → ⊥) where
    pub ahead_present : Ahead (without load p a Z) (outs load p a Z) X ↔ Fore (edge load p) (without load p a Z) (outs load p a Z) X
    ahead_present = (there, back)
      where
        there : Ahead (without load p a Z) (outs load p a Z) X → Fore (edge load p) (without load p a Z) (outs load p a Z) X
        there (c, o, w) = let r = first_step w in (c, r.0, o, r.1, lift_upto up r.2)

        -- no walk comes back to P
        never : (c y : ℕ) → outs load p a Z c ≡ true → without load p a Z c y ≡ true → Upto (edge load p) y (at p a) → Dec (c ≡ at p a) → ⊥
        never c y o h u (yes e) = none (at p a) (more-then (one (subst (λ k. edge load p k y ≡ true) e (up c y h))) u)
        never c y o h u (no e) = none (at p a) (more (leads c o e) (more-then (one (up c y h)) u))

        go : (c y : ℕ) → outs load p a Z c ≡ true → without load p a Z c y ≡ true → Upto (edge load p) y X → Walk (without load p a Z) c X
        go c y o h (inl e) = one (subst (λ k. without load p a Z c k ≡ true) e h)
        go c y o h (inr w) =
            ⊎_elim (λ k. more h k) (λ k. absurd (never c y o h (inr k.0) (ℕ_discrete c (at p a))))
            (avoid (at p a) (kept load p a Z n v) (λ e. never c y o h (inl e) (ℕ_discrete c (at p a))) d w)

        back : Fore (edge load p) (without load p a Z) (outs load p a Z) X → Ahead (without load p a Z) (outs load p a Z) X
        back (c, y, o, h, u) = (c, o, go c y o h u)

    pub behind_present : Behind (without load p a Z) (ins load p a Z) X ↔ Aft (edge load p) (without load p a Z) (ins load p a Z) X
    behind_present = (there, back)
      where
        there : Behind (without load p a Z) (ins load p a Z) X → Aft (edge load p) (without load p a Z) (ins load p a Z) X
        there (c, o, w) = let r = last_step w in (c, r.0, o, r.1, lift_upto up r.2)

        never : (c y : ℕ) → ins load p a Z c ≡ true → without load p a Z y c ≡ true → Upto (edge load p) (at p a) y → Dec (c ≡ at p a) → ⊥
        never c y o h u (yes e) = none (at p a) (then-more u (one (subst (λ k. edge load p y k ≡ true) e (up y c h))))
        never c y o h u (no e) = none (at p a) (then-more u (more (up y c h) (one (led c o e))))

        go : (c y : ℕ) → ins load p a Z c ≡ true → without load p a Z y c ≡ true → Upto (edge load p) X y → Walk (without load p a Z) X c
        go c y o h (inl e) = one (subst (λ k. without load p a Z k c ≡ true) (sym e) h)
        go c y o h (inr w) =
            ⊎_elim (λ k. join k (one h)) (λ k. absurd (never c y o h (inr k.1) (ℕ_discrete c (at p a))))
            (avoid (at p a) (kept load p a Z n v) d (λ e. never c y o h (inl (sym e)) (ℕ_discrete c (at p a))) w)

        back : Aft (edge load p) (without load p a Z) (ins load p a Z) X → Behind (without load p a Z) (ins load p a Z) X
        back (c, y, o, h, u) = (c, o, go c y o h u)
