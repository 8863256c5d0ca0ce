-- From an acyclic graph the two walks can go along the present edges, whose lists serve every atom: only their first steps are asked to be
-- edges without the atom. Assumes nothing.
use Rattle.std.specs.Prelude.{ℕ, ◌≡◌, refl, Bool, true}
use Rattle.std.proofs.Common.{sym, subst, inl, inr}
use Rattle.graphs.specs.Walk.{Walk, one, more}
use Rattle.graphs.specs.Walks.{join}
use Rattle.move_free_walks.specs.Joins.{Upto, lift}

pub then-more : {g : ℕ → ℕ → Bool} {x y z : ℕ} → Upto g x y → Walk g y z → Walk g x z
then-more {g} {x} {y} {z} (inl e) w = subst (λ k. Walk g k z) (sym e) w
then-more (inr u) w = join u w

pub more-then : {g : ℕ → ℕ → Bool} {x y z : ℕ} → Walk g x y → Upto g y z → Walk g x z
more-then {g} {x} {y} {z} w (inl e) = subst (λ k. Walk g x k) e w
more-then w (inr u) = join w u

-- the last step of a walk
pub last_step : {g : ℕ → ℕ → Bool} {x z : ℕ} → Walk g x z → (y : ℕ) × (g y z ≡ true) × Upto g x y
last_step {g} {x} (one h) = (x, h, inl refl)
last_step {g} {x} (more h p) = let r = last_step p in (r.0, r.1, inr (longer-by h r.2))
  where
    longer-by : {u v w : ℕ} → g u v ≡ true → Upto g v w → Walk g u w
    longer-by {u} {v} {w} a (inl e) = one (subst (λ k. g u k ≡ true) e a)
    longer-by a (inr s) = more a s

pub first_step : {g : ℕ → ℕ → Bool} {x z : ℕ} → Walk g x z → (y : ℕ) × (g x y ≡ true) × Upto g y z
first_step (one {x} {y} h) = (y, h, inl refl)
first_step (more {x} {y} {z} h p) = (y, h, inr p)

pub lift_upto : {e e' : ℕ → ℕ → Bool} → ((x y : ℕ) → e x y ≡ true → e' x y ≡ true) → {x y : ℕ} → Upto e x y → Upto e' x y
lift_upto f (inl e) = inl e
lift_upto f (inr w) = inr (lift f w)
