-- Theorems on the definitions of specs/Joins: they stand here, so that the crate can be read with a definition changed. Assumes nothing.
use Rattle.std.specs.Prelude.{ℕ, ◌≡◌, refl, ◌⊎◌, ◌↔◌, Bool, true}
use Rattle.std.proofs.Math.Decide.{ℕ_discrete}
use Rattle.std.proofs.Common.{sym, subst, ◌∙◌, inl, inr}
use Rattle.std.proofs.Math.Logic.{⊎_elim}
use Rattle.graphs.specs.Walk.{Walk, one, more}
use Rattle.graphs.specs.Walks.{join, closed}
use Rattle.move_free_walks.specs.Joins.{joined, Why, old, leaves, enters, joined_why, why_joined, Upto, Ahead, Behind, Around, Closes, Acyclic, longer, lift, Free}

-- a walk from y to X, up to its first visit of X, is one of h, or one of h to a node of `into`
abbrev Home : (ℕ → ℕ → Bool) → (ℕ → Bool) → ℕ → ℕ → Type 0
Home h into X y = Walk h y X ⊎ ((d : ℕ) × (into d ≡ true) × (d ≡ X → ⊥) × Upto h y d)

module _ (h : ℕ → ℕ → Bool) (out into : ℕ → Bool) (X : ℕ) (free : Acyclic h) where
  keeps : (x y : ℕ) → h x y ≡ true → joined h out into X x y ≡ true
  keeps x y a = why_joined h out into X x y (old a)

  leave : (c : ℕ) → out c ≡ true → (c ≡ X → ⊥) → joined h out into X X c ≡ true
  leave c o n = why_joined h out into X X c (leaves refl n o)

  enter : (d : ℕ) → into d ≡ true → (d ≡ X → ⊥) → joined h out into X d X ≡ true
  enter d o n = why_joined h out into X d X (enters refl n o)

  -- each of the three closes a cycle through X
  pub ahead-closes : Ahead h out X → Walk (joined h out into X) X X
  ahead-closes (c, o, w) = more (leave c o (λ e. free X (subst (λ k. Walk h k X) e w))) (lift keeps w)

  pub behind_closes : Behind h into X → Walk (joined h out into X) X X
  behind_closes (d, o, w) = join (lift keeps w) (one (enter d o (λ e. free X (subst (λ k. Walk h X k) e w))))

  pub around-closes : Around h out into X → Walk (joined h out into X) X X
  around-closes r = go r.leads
    where
      back : joined h out into X r.d X ≡ true
      back = enter r.d r.to r.d_not

      go : Upto h r.c r.d → Walk (joined h out into X) X X
      go (inl e) = more (leave r.c r.from r.c_not) (one (subst (λ k. joined h out into X k X ≡ true) (sym e) back))
      go (inr w) = more (leave r.c r.from r.c_not) (join (lift keeps w) (one back))

  last_step : (y : ℕ) → (y ≡ X → ⊥) → Why h out into X y X → Home h into X y
  last_step y n (old a) = inl (one a)
  last_step y n (leaves e d o) = absurd (n e)
  last_step y n (enters e d o) = inr (y, o, n, inl refl)

  inner_step : (y m : ℕ) → (y ≡ X → ⊥) → (m ≡ X → ⊥) → Why h out into X y m → h y m ≡ true
  inner_step y m n k (old a) = a
  inner_step y m n k (leaves e d o) = absurd (n e)
  inner_step y m n k (enters e d o) = absurd (k e)

  further : (y m : ℕ) → h y m ≡ true → Home h into X m → Home h into X y
  further y m a (inl w) = inl (more a w)
  further y m a (inr (d, o, n, u)) = inr (d, o, n, inr (longer a u))

  home : {y z : ℕ} → z ≡ X → (y ≡ X → ⊥) → Walk (joined h out into X) y z → Home h into X y
  home {y} {z} q n (one a) = last_step y n (joined_why h out into X y X (subst (λ k. joined h out into X y k ≡ true) q a))
  home {y} {z} q n (more {y = m} a p) = step (ℕ_discrete m X) (λ k. home q k p)
    where
      step : Dec (m ≡ X) → ((m ≡ X → ⊥) → Home h into X m) → Home h into X y
      step (yes e) f = last_step y n (joined_why h out into X y X (subst (λ k. joined h out into X y k ≡ true) e a))
      step (no k) f = further y m (inner_step y m n k (joined_why h out into X y m a)) (f k)

  first_step : (m : ℕ) → (m ≡ X → ⊥) → Why h out into X X m → Home h into X m → Closes h out into X
  first_step m n (old a) (inl w) = absurd (free X (more a w))
  first_step m n (old a) (inr (d, o, k, u)) = inr (inl (d, o, longer a u))
  first_step m n (leaves e k o) (inl w) = inl (m, o, w)
  first_step m n (leaves e k o) (inr (d, i, j, u)) = inr (inr (record { c = m; d = d; from = o; to = i; c_not = n; d_not = j; leads = u }))
  first_step m n (enters e k o) r = absurd (n e)

  no_loop : Why h out into X X X → ⊥
  no_loop (old a) = free X (one a)
  no_loop (leaves e k o) = k refl
  no_loop (enters e k o) = k refl

  through : {x z : ℕ} → x ≡ X → z ≡ X → Walk (joined h out into X) x z → Closes h out into X
  through {x} {z} p q (one a) =
      absurd (no_loop (joined_why h out into X X X (subst (λ k. joined h out into X X k ≡ true) q (subst (λ k. joined h out into X k z ≡ true) p a))))
  through {x} {z} p q (more {y = m} a w) = step (ℕ_discrete m X) (subst (λ k. joined h out into X k m ≡ true) p a)
    where
      step : Dec (m ≡ X) → joined h out into X X m ≡ true → Closes h out into X
      step (yes e) b = absurd (no_loop (joined_why h out into X X X (subst (λ k. joined h out into X X k ≡ true) e b)))
      step (no n) b = first_step m n (joined_why h out into X X m b) (home q n w)

  -- a closed walk of the graph with the thing in X is one of the three
  pub closes_when : ((x : ℕ) × Walk (joined h out into X) x x) ↔ Closes h out into X
  closes_when = (there, back)
    where
      there : (x : ℕ) × Walk (joined h out into X) x x → Closes h out into X
      there (x, w) = ⊎_elim (λ u. absurd (free x u)) (λ v. through refl refl (join v.1 v.0)) (closed X (λ y z a b t. inner_step y z a b (joined_why h out into X y z t)) x w)

      back : Closes h out into X → (x : ℕ) × Walk (joined h out into X) x x
      back (inl a) = (X, ahead-closes a)
      back (inr (inl b)) = (X, behind_closes b)
      back (inr (inr r)) = (X, around-closes r)

module _ (h : ℕ → ℕ → Bool) (out into : ℕ → Bool) (X : ℕ) (free : Acyclic h) where
  pub acyclic_when : Acyclic (joined h out into X) ↔ Free h out into X
  acyclic_when = (there, back)
    where
      there : Acyclic (joined h out into X) → Free h out into X
      there g = record {
        not_ahead = λ a. g X (ahead-closes h out into X free a);
        not_behind = λ b. g X (behind_closes h out into X free b);
        only_here = λ c o r. here c o r (ℕ_discrete c X);
      }
        where
          meet : (c : ℕ) → out c ≡ true → (c ≡ X → ⊥) → (d : ℕ) → into d ≡ true → Upto h c d → Dec (d ≡ X) → ⊥
          meet c o n d i (inl e) (yes q) = n (e ∙ q)
          meet c o n d i (inr w) (yes q) = g X (ahead-closes h out into X free (c, o, subst (λ k. Walk h c k) q w))
          meet c o n d i u (no q) = g X (around-closes h out into X free (record { c = c; d = d; from = o; to = i; c_not = n; d_not = q; leads = u }))

          here : (c : ℕ) → out c ≡ true → (into c ≡ true) ⊎ Behind h into c → Dec (c ≡ X) → c ≡ X
          here c o r (yes e) = e
          here c o (inl i) (no n) = absurd (meet c o n c i (inl refl) (ℕ_discrete c X))
          here c o (inr (d, i, w)) (no n) = absurd (meet c o n d i (inr w) (ℕ_discrete d X))

      back : Free h out into X → Acyclic (joined h out into X)
      back f x w = go ((closes_when h out into X free).0 (x, w))
        where
          round : (r : Around h out into X) → Upto h r.c r.d → r.c ≡ X
          round r (inl e) = f.only_here r.c r.from (inl (subst (λ k. into k ≡ true) (sym e) r.to))
          round r (inr u) = f.only_here r.c r.from (inr (r.d, r.to, u))

          go : Closes h out into X → ⊥
          go (inl a) = f.not_ahead a
          go (inr (inl b)) = f.not_behind b
          go (inr (inr r)) = r.c_not (round r r.leads)

-- where the thing is in P and closes no cycle there, the third way from another X is that P is in `out` and in `into`
module _ (h : ℕ → ℕ → Bool) (out into : ℕ → Bool) (P : ℕ) (free : Acyclic h) (now : Acyclic (joined h out into P)) (X : ℕ) (n : X ≡ P → ⊥) where
  pub around_own : Around h out into X ↔ ((out P ≡ true) × (into P ≡ true))
  around_own = (there, λ b. record { c = P; d = P; from = b.0; to = b.1; c_not = λ e. n (sym e); d_not = λ e. n (sym e); leads = inl refl })
    where
      there : Around h out into X → (out P ≡ true) × (into P ≡ true)
      there r = go r.leads (ℕ_discrete r.c P) (ℕ_discrete r.d P)
        where
          go : Upto h r.c r.d → Dec (r.c ≡ P) → Dec (r.d ≡ P) → (out P ≡ true) × (into P ≡ true)
          go u (yes p) (yes q) = (subst (λ k. out k ≡ true) p r.from, subst (λ k. into k ≡ true) q r.to)
          go (inl e) (yes p) (no q) = absurd (q (sym e ∙ p))
          go (inr w) (yes p) (no q) = absurd (now P (behind_closes h out into P free (r.d, r.to, subst (λ k. Walk h k r.d) p w)))
          go (inl e) (no p) (yes q) = absurd (p (e ∙ q))
          go (inr w) (no p) (yes q) = absurd (now P (ahead-closes h out into P free (r.c, r.from, subst (λ k. Walk h r.c k) q w)))
          go u (no p) (no q) = absurd (now P (around-closes h out into P free (record { c = r.c; d = r.d; from = r.from; to = r.to; c_not = p; d_not = q; leads = u })))

  -- so that what free code counts needs the two walks and one test of P
  pub acyclic_own : Acyclic (joined h out into X) ↔ (((out P ≡ true) × (into P ≡ true) → ⊥) × (Ahead h out X → ⊥) × (Behind h into X → ⊥))
  acyclic_own = (
    λ g. (λ b. g X (around-closes h out into X free (around_own.1 b)), λ a. g X (ahead-closes h out into X free a), λ b. g X (behind_closes h out into X free b)),
    λ f x w. go f ((closes_when h out into X free).0 (x, w)),
  )
    where
      go : ((out P ≡ true) × (into P ≡ true) → ⊥) × (Ahead h out X → ⊥) × (Behind h into X → ⊥) → Closes h out into X → ⊥
      go f (inl a) = f.1 a
      go f (inr (inl b)) = f.2 b
      go f (inr (inr r)) = f.0 (around_own.0 r)
