-- What the tests of `Walk` compute, and how a walk changes with the edges. Assumes nothing.
use Prim.Native.Nat.{ℕ, ◌<◌}
use Rattle.std.proofs.Math.Decide.{ℕ_discrete}
use Rattle.std.specs.Prelude.{◌≡◌, refl, ◌⊎◌, ◌↔◌, true, false, ◌&&◌, ◌||◌, List, [], ◌∷◌, eqb}
use Rattle.std.proofs.Common.{sym, subst, ◌∙◌, inl, inr, ⊎_elim, true≢false, eqb-true}
use Rattle.std.proofs.Math.Bool.{Bool, not}
use Rattle.graphs.specs.Bools.{or_cases, or_left, or_right, and_left, and_right, and_both, fails, alike}
use Rattle.graphs.specs.Lists.{any, all, has, any_give, any-take, all_give, all_take, below, has-below, some_none}
use Rattle.graphs.specs.Walk.{Walk, one, more, via, cyclic, only}

pub join : {e : ℕ → ℕ → Bool} {x y z : ℕ} → Walk e x y → Walk e y z → Walk e x z
join (one h) q = more h q
join (more h p) q = more h (join p q)

pub sound : (e : ℕ → ℕ → Bool) (ks : List ℕ) (x y : ℕ) → via e ks x y ≡ true → Walk e x y
unfolding via
sound e [] x y h = one h
sound e (k ∷ ks) x y h =
    ⊎_elim (λ a. sound e ks x y a)
    (λ b. join (sound e ks x k (and_left (via e ks x k) _ b)) (sound e ks k y (and_right (via e ks x k) _ b)))
    (or_cases (via e ks x y) _ h)

-- a walk with every inner node in the list
data Inner (e : ℕ → ℕ → Bool) (ks : List ℕ) : ℕ → ℕ → Type 0 where
  last : {x y : ℕ} → e x y ≡ true → Inner e ks x y
  next : {x y z : ℕ} → e x y ≡ true → has y ks ≡ true → Inner e ks y z → Inner e ks x z

has_tail : (x k : ℕ) (ks : List ℕ) → has x (k ∷ ks) ≡ true → (x ≡ k → ⊥) → has x ks ≡ true
unfolding has any
has_tail x k ks h n = ⊎_elim (λ a. absurd (n (eqb-true x k a))) (λ b. b) (or_cases (eqb x k) _ h)

-- up to the first visit of k, and from the last one, the walk does without k
split : {e : ℕ → ℕ → Bool} {k : ℕ} {ks : List ℕ} {x y : ℕ} → Inner e (k ∷ ks) x y → Inner e ks x y ⊎ (Inner e ks x k × Inner e ks k y)
split (last h) = inl (last h)
split {e} {k} {ks} (next {x} {y} {z} h b p) = step (ℕ_discrete y k) (split p)
  where
    step : Dec (y ≡ k) → Inner e ks y z ⊎ (Inner e ks y k × Inner e ks k z) → Inner e ks x z ⊎ (Inner e ks x k × Inner e ks k z)
    step (yes q) (inl r) = inr (last (rw q at h), rw q at r)
    step (yes q) (inr r) = inr (last (rw q at h), r.1)
    step (no n) (inl r) = inl (next h (has_tail y k ks b n) r)
    step (no n) (inr r) = inr (next h (has_tail y k ks b n) r.0, r.1)

complete_inner : (e : ℕ → ℕ → Bool) (ks : List ℕ) (x y : ℕ) → Inner e ks x y → via e ks x y ≡ true
unfolding via has any
complete_inner e [] x y (last h) = h
complete_inner e [] x y (next h b p) = absurd (true≢false (sym b))
complete_inner e (k ∷ ks) x y p =
    ⊎_elim (λ a. or_left (via e ks x y) _ (complete_inner e ks x y a))
    (λ b. or_right (via e ks x y) _ (and_both (via e ks x k) _ (complete_inner e ks x k b.0) (complete_inner e ks k y b.1)))
    (split p)

-- `via` is complete over any list that holds the source of every edge
module _ (e : ℕ → ℕ → Bool) (ks : List ℕ) (f : (x y : ℕ) → e x y ≡ true → has x ks ≡ true) where
  pub walk_source : {x y : ℕ} → Walk e x y → has x ks ≡ true
  walk_source (one h) = f _ _ h
  walk_source (more h p) = f _ _ h

  within : {x y : ℕ} → Walk e x y → Inner e ks x y
  within (one h) = last h
  within (more h p) = next h (walk_source p) (within p)

  pub complete : (x y : ℕ) → Walk e x y → via e ks x y ≡ true
  complete x y p = complete_inner e ks x y (within p)

-- each test is its statement about walks, over any list that holds the source of every edge
module _ (e : ℕ → ℕ → Bool) (ks : List ℕ) (f : (x y : ℕ) → e x y ≡ true → has x ks ≡ true) where
  pub via_walk : (x y : ℕ) → (via e ks x y ≡ true) ↔ Walk e x y
  via_walk x y = (λ h. sound e ks x y h, λ w. complete e ks f x y w)

  pub cyclic_walk : (cyclic e ks ≡ true) ↔ ((x : ℕ) × Walk e x x)
  unfolding cyclic
  cyclic_walk = (
    λ h. let r = any-take (λ x. via e ks x x) ks h in (r.0, sound e ks r.0 r.0 r.2),
    λ w. any_give (λ x. via e ks x x) ks w.0 (walk_source e ks f w.1) (complete e ks f w.0 w.0 w.1),
  )

  pub acyclic_walk : (cyclic e ks ≡ false) ↔ ((x : ℕ) → Walk e x x → ⊥)
  acyclic_walk = (λ h x w. true≢false (sym (cyclic_walk.1 (x, w)) ∙ h), λ g. fails _ (λ h. let r = cyclic_walk.0 h in g r.0 r.1))

  pub only_walk : (x : ℕ) → (only e ks x ≡ true) ↔ (Walk e x x × ((y : ℕ) → Walk e y y → Walk e x y × Walk e y x))
  unfolding only
  only_walk x = (there, back)
    where
      test : ℕ → Bool
      test y = not (via e ks y y) || (via e ks x y && via e ks y x)

      there : (via e ks x x && all test ks) ≡ true → Walk e x x × ((y : ℕ) → Walk e y y → Walk e x y × Walk e y x)
      there h = (
        (via_walk x x).0 (and_left (via e ks x x) _ h),
        λ y w.
            let a = all_take test ks (and_right (via e ks x x) _ h) y (walk_source e ks f w) in
            let b = subst (λ t. (not t || (via e ks x y && via e ks y x)) ≡ true) ((via_walk y y).1 w) a in
            ((via_walk x y).0 (and_left (via e ks x y) _ b), (via_walk y x).0 (and_right (via e ks x y) _ b)),
      )

      back : Walk e x x × ((y : ℕ) → Walk e y y → Walk e x y × Walk e y x) → (via e ks x x && all test ks) ≡ true
      back c = and_both (via e ks x x) _ ((via_walk x x).1 c.0) (all_give test ks (λ y m. pass y (via e ks y y) refl))
        where
          pass : (y : ℕ) (t : Bool) → via e ks y y ≡ t → (not t || (via e ks x y && via e ks y x)) ≡ true
          pass y true q = let r = c.1 y ((via_walk y y).0 q) in and_both (via e ks x y) _ ((via_walk x y).1 r.0) ((via_walk y x).1 r.1)
          pass y false q = refl

-- the tests are the same over any two lists that hold the source of every edge
module _ (e : ℕ → ℕ → Bool) (ks ls : List ℕ) (f : (x y : ℕ) → e x y ≡ true → has x ks ≡ true) (g : (x y : ℕ) → e x y ≡ true → has x ls ≡ true) where
  pub via-lists : (x y : ℕ) → via e ks x y ≡ via e ls x y
  via-lists x y = alike _ _ (λ h. (via_walk e ls g x y).1 ((via_walk e ks f x y).0 h)) (λ h. (via_walk e ks f x y).1 ((via_walk e ls g x y).0 h))

  pub cyclic-lists : cyclic e ks ≡ cyclic e ls
  cyclic-lists = alike _ _ (λ h. (cyclic_walk e ls g).1 ((cyclic_walk e ks f).0 h)) (λ h. (cyclic_walk e ks f).1 ((cyclic_walk e ls g).0 h))

  pub only-lists : (x : ℕ) → only e ks x ≡ only e ls x
  only-lists x = alike _ _ (λ h. (only_walk e ls g x).1 ((only_walk e ks f x).0 h)) (λ h. (only_walk e ks f x).1 ((only_walk e ls g x).0 h))

-- without a cycle there is no cyclic component
pub acyclic_none : (e : ℕ → ℕ → Bool) (n x : ℕ) → cyclic e (below n) ≡ false → x < n → only e (below n) x ≡ false
unfolding cyclic only
acyclic_none e n x h b =
    let z = some_none (λ y. via e (below n) y y) n h x b in
    fails _ (λ t. let y : via e (below n) x x ≡ true = and_left (via e (below n) x x) _ t in absurd (true≢false (sym y ∙ z)))

-- the source of every edge is below n
abbrev pub Sources : (ℕ → ℕ → Bool) → ℕ → Type 0
Sources e n = (x y : ℕ) → e x y ≡ true → x < n

pub sources-below : {e : ℕ → ℕ → Bool} {n : ℕ} → Sources e n → (x y : ℕ) → e x y ≡ true → has x (below n) ≡ true
sources-below {e} {n} f x y h = has-below x n (f x y h)

pub walk_from : {e : ℕ → ℕ → Bool} {n : ℕ} → Sources e n → {x y : ℕ} → Walk e x y → x < n
walk_from f (one h) = f _ _ h
walk_from f (more h p) = f _ _ h

pub walk_to : {e : ℕ → ℕ → Bool} {n : ℕ} → ((x y : ℕ) → e x y ≡ true → y < n) → {x y : ℕ} → Walk e x y → y < n
walk_to f (one h) = f _ _ h
walk_to f (more h p) = walk_to f p

-- where edges between nodes other than f are kept, a walk is kept, or it visits f
module _ {e e' : ℕ → ℕ → Bool} (f : ℕ) (keep : (x y : ℕ) → (x ≡ f → ⊥) → (y ≡ f → ⊥) → e x y ≡ true → e' x y ≡ true) where
  pub avoid : {x y : ℕ} → (x ≡ f → ⊥) → (y ≡ f → ⊥) → Walk e x y → Walk e' x y ⊎ (Walk e x f × Walk e f y)
  avoid a b (one h) = inl (one (keep _ _ a b h))
  avoid a b (more {x} {y = m} {z} h p) = step (ℕ_discrete m f) (λ c. avoid c b p)
    where
      step : Dec (m ≡ f) → ((m ≡ f → ⊥) → Walk e' m z ⊎ (Walk e m f × Walk e f z)) → Walk e' x z ⊎ (Walk e x f × Walk e f z)
      step (yes q) r = inr (one (rw q at h), rw q at p)
      step (no n) r = ⊎_elim (λ u. inl (more (keep _ _ a n h) u)) (λ v. inr (more h v.0, v.1)) (r n)

  -- a closed walk is kept, or lies on one with f
  pub closed : (x : ℕ) → Walk e x x → Walk e' x x ⊎ (Walk e x f × Walk e f x)
  closed x p = step (ℕ_discrete x f)
    where
      step : Dec (x ≡ f) → Walk e' x x ⊎ (Walk e x f × Walk e f x)
      step (yes q) = inr (subst (λ z. Walk e x z) q p, subst (λ z. Walk e z x) q p)
      step (no n) = avoid n n p
