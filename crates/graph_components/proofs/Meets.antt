-- The edges within components, met one after the other. Assumes nothing.
use Prim.Native.Nat.{ℕ, ◌+◌, ◌<◌}
use native.Mathlib.Omega.{arith}
use native.Mathlib.Decide.{ℕ_discrete}
use mathlib.Core.Path.{◌≡◌, refl, sym, ap, ◌∙◌}
use mathlib.Core.Logic.{◌⊎◌, inl, inr, ⊎_elim}
use mathlib.Core.Bool.{cond}
use mathlib.Core.List.{List}
use lib.Dec.{eqb}
use borrow.Author.Tests.{eq-eqb, ne_eqb}
use Rattle.graph_neighbours.specs.Lists.{deg, nb}
use Rattle.graph_depth_first.specs.Steps.{at}
use Rattle.graph_components.specs.declared.Found.{Found}
use Rattle.graph_components.specs.declared.Found.TheVariants.{Nothing, Only, Several}
use Rattle.graph_components.specs.Only.{meet_of, Met, Inner}

-- one edge more
pub met-step : {P Q : ℕ → Type 0} (found : Found) (a b : ℕ) → Met P found → ((l : ℕ) → P l → Q l) → (a ≡ b → Q a) → ((l : ℕ) → Q l → P l ⊎ ((a ≡ b) × (l ≡ a))) → Met Q (meet_of found a b)
met-step {P} {Q} found a b v keep new back = go found v (ℕ_discrete a b)
  where
    go : (found : Found) → Met P found → Dec (a ≡ b) → Met Q (meet_of found a b)
    go Nothing v (no e) = rw (ne_eqb a b e) (λ l y. ⊎_elim (λ u. v l u) (λ u. e u.0) (back l y))
    go (Only m) v (no e) = rw (ne_eqb a b e) (keep m v.0, λ l y. ⊎_elim (λ u. v.1 l u) (λ u. absurd (e u.0)) (back l y))
    go Several v (no e) = rw (ne_eqb a b e) (v.0, v.1, keep v.0 v.2, keep v.1 v.3, v.4)
    go Nothing v (yes e) = rw (eq-eqb a b e) (new e, λ l y. ⊎_elim (λ u. absurd (v l u)) (λ u. u.1) (back l y))
    go Several v (yes e) = rw (eq-eqb a b e) (v.0, v.1, keep v.0 v.2, keep v.1 v.3, v.4)
    go (Only m) v (yes e) = rw (eq-eqb a b e) (same (ℕ_discrete m a))
      where
        same : Dec (m ≡ a) → Met Q (cond (eqb m a) (Only m) Several)
        same (yes r) = rw (eq-eqb m a r) (keep m v.0, λ l y. ⊎_elim (λ u. v.1 l u) (λ u. u.1 ∙ sym r) (back l y))
        same (no r) = rw (ne_eqb m a r) (m, a, keep m v.0, new e, r)

-- from one place to the next
module _ {g q : List ℕ} {n : ℕ} {c : ℕ → ℕ} {x j : ℕ} (xn : x < n) (jd : j < deg g x) where
  pub inner_keep : (l : ℕ) → Inner g q n c x j l → Inner g q n c x (j + 1) l
  inner_keep l v = record {
    node = v.node;
    place = v.place;
    within = v.within;
    there = v.there;
    same = v.same;
    label = v.label;
    before = ⊎_elim (λ h. inl h) (λ h. inr (h.0, omega (arith, h.1))) v.before;
  }

  pub inner_new : {y : ℕ} → y ≡ nb g q x j → c x ≡ c y → Inner g q n c x (j + 1) (c x)
  inner_new is h = record { node = x; place = j; within = xn; there = jd; before = inr (refl, omega arith); same = h ∙ ap c is; label = refl }

  pub inner_back : {y : ℕ} → y ≡ nb g q x j → (l : ℕ) → Inner g q n c x (j + 1) l → Inner g q n c x j l ⊎ ((c x ≡ c y) × (l ≡ c x))
  inner_back {y} is l v = ⊎_elim
      (λ h. inl (record { node = v.node; place = v.place; within = v.within; there = v.there; same = v.same; label = v.label; before = inl h }))
      (λ h. elim (ℕ_discrete v.place j) [
        | yes z ↦ inr (ap c (sym h.0) ∙ v.same ∙ ap c (rw (h.0, z) (sym is)), sym v.label ∙ ap c h.0)
        | no z ↦ inl (record { node = v.node; place = v.place; within = v.within; there = v.there; same = v.same; label = v.label; before = inr (h.0, omega (arith, h.1)) })
      ])
      v.before

met-map : {P Q : ℕ → Type 0} (found : Found) → ((l : ℕ) → P l → Q l) → ((l : ℕ) → Q l → P l) → Met P found → Met Q found
met-map Nothing f b v = λ l y. v l (b l y)
met-map (Only m) f b v = (f m v.0, λ l y. v.1 l (b l y))
met-map Several f b v = (v.0, v.1, f v.0 v.2, f v.1 v.3, v.4)

pub met-turn : (g q : List ℕ) {n : ℕ} (w : List ℕ) {x j y : ℕ} (found : Found) → x < n → j < deg g x → y ≡ nb g q x j → Met (Inner g q n (at w) x j) found → Met (Inner g q n (at w) x (j + 1)) (meet_of found (at w x) (at w y))
met-turn g q w {x} {j} {y} found xn jd is v = met-step found (at w x) (at w y) v (inner_keep xn jd) (inner_new xn jd is) (inner_back xn jd is)

pub met_next : (g q : List ℕ) (n : ℕ) (c : ℕ → ℕ) (x : ℕ) (found : Found) → Met (Inner g q n c x (deg g x)) found → Met (Inner g q n c (x + 1) 0) found
met_next g q n c x found = met-map found
    (λ l i. record { node = i.node; place = i.place; within = i.within; there = i.there; same = i.same; label = i.label; before = ⊎_elim (λ h. inl (omega arith)) (λ h. inl (omega (arith, h.0))) i.before })
    (λ l i. record { node = i.node; place = i.place; within = i.within; there = i.there; same = i.same; label = i.label; before = ⊎_elim (λ h. elim (ℕ_discrete i.node x) [ yes z ↦ inr (z, rw (ap (deg g) z) at i.there) | no z ↦ inl (omega arith) ]) (λ h. absurd (omega (arith, h.1))) i.before })

pub met-none : {g q : List ℕ} {n : ℕ} {c : ℕ → ℕ} → Met (Inner g q n c 0 0) Nothing
met-none = λ l i. ⊎_elim (λ z. omega arith) (λ z. omega (arith, z.1)) i.before
