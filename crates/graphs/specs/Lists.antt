-- Tests on lists of numbers. Assumes nothing.
use Rattle.std.specs.Prelude.{ℕ, zero, suc, ◌+◌, ◌<◌, ◌≡◌, refl, ◌⊎◌, Bool, true, false, ◌&&◌, ◌||◌, List, [], ◌∷◌, eqb, length, get_or}
use Rattle.std.proofs.Common.{arith, sym, ap, ◌∙◌, inl, inr, ⊎_elim, true≢false, eqb-true, eq-eqb}
use Rattle.std.proofs.Math.Decide.{ℕ_discrete}
use Rattle.graphs.specs.Bools.{or_cases, or_left, or_right, and_left, and_right, and_both, fails}

-- some member, every member passes
unfoldable pub any : (ℕ → Bool) → List ℕ → Bool
any p [] = false
any p (x ∷ xs) = p x || any p xs

unfoldable pub all : (ℕ → Bool) → List ℕ → Bool
all p [] = true
all p (x ∷ xs) = p x && all p xs

-- x is a member
unfoldable pub has : ℕ → List ℕ → Bool
has x l = any (eqb x) l

-- the numbers below n
unfoldable pub below : ℕ → List ℕ
below zero = []
below (suc n) = n ∷ below n

-- some number below n passes
abbrev pub some_below : (ℕ → Bool) → ℕ → Bool
some_below p n = any p (below n)

pub any_give : (p : ℕ → Bool) (l : List ℕ) (x : ℕ) → has x l ≡ true → p x ≡ true → any p l ≡ true
unfolding any has
any_give p [] x m h = m
any_give p (y ∷ ys) x m h = pick (or_cases (eqb x y) _ m) (λ n. any_give p ys x n h)
  where
    pick : (eqb x y ≡ true) ⊎ (any (eqb x) ys ≡ true) → (any (eqb x) ys ≡ true → any p ys ≡ true) → (p y || any p ys) ≡ true
    pick (inl e) f = or_left (p y) _ (rw (← eqb-true x y e) h)
    pick (inr n) f = or_right (p y) _ (f n)

pub any-take : (p : ℕ → Bool) (l : List ℕ) → any p l ≡ true → (x : ℕ) × (has x l ≡ true) × (p x ≡ true)
unfolding any has
any-take p [] h = absurd (true≢false (sym h))
any-take p (y ∷ ys) h = pick (or_cases (p y) _ h) (any-take p ys)
  where
    pick : (p y ≡ true) ⊎ (any p ys ≡ true) → (any p ys ≡ true → (x : ℕ) × (has x ys ≡ true) × (p x ≡ true)) → (x : ℕ) × (any (eqb x) (y ∷ ys) ≡ true) × (p x ≡ true)
    pick (inl e) f = (y, or_left (eqb y y) _ (eq-eqb y y refl), e)
    pick (inr n) f = let r : (x : ℕ) × (has x ys ≡ true) × (p x ≡ true) = f n in (r.0, or_right (eqb r.0 y) _ r.1, r.2)

pub all_take : (p : ℕ → Bool) (l : List ℕ) → all p l ≡ true → (x : ℕ) → has x l ≡ true → p x ≡ true
unfolding all any has
all_take p [] h x m = absurd (true≢false (sym m))
all_take p (y ∷ ys) h x m = pick (or_cases (eqb x y) _ m) (all_take p ys (and_right (p y) _ h) x)
  where
    pick : (eqb x y ≡ true) ⊎ (any (eqb x) ys ≡ true) → (any (eqb x) ys ≡ true → p x ≡ true) → p x ≡ true
    pick (inl e) f = rw (eqb-true x y e) (and_left (p y) _ h)
    pick (inr n) f = f n

pub all_give : (p : ℕ → Bool) (l : List ℕ) → ((x : ℕ) → has x l ≡ true → p x ≡ true) → all p l ≡ true
unfolding all any has
all_give p [] f = refl
all_give p (y ∷ ys) f = and_both (p y) _ (f y (or_left (eqb y y) _ (eq-eqb y y refl))) (all_give p ys (λ x m. f x (or_right (eqb x y) _ m)))

pub has-at : (l : List ℕ) (i : ℕ) → i < length l → has (get_or l i 0) l ≡ true
unfolding any has
has-at [] i h = absurd (omega arith)
has-at (y ∷ ys) zero h = or_left (eqb y y) _ (eq-eqb y y refl)
has-at (y ∷ ys) (suc i) h = or_right (eqb (get_or ys i 0) y) _ (has-at ys i (omega arith))

-- the place of a member
pub has-place : (x : ℕ) (l : List ℕ) → has x l ≡ true → (i : ℕ) × (i < length l) × (get_or l i 0 ≡ x)
unfolding any has
has-place x [] h = absurd (true≢false (sym h))
has-place x (y ∷ ys) h = ⊎_elim (λ a. (0, omega arith, sym (eqb-true x y a))) (λ b. let r = has-place x ys b in (suc r.0, omega (arith, r.1), r.2)) (or_cases (eqb x y) _ h)

pub has-below : (x n : ℕ) → x < n → has x (below n) ≡ true
unfolding any has below
has-below x zero h = absurd (omega arith)
has-below x (suc n) h = go (ℕ_discrete x n) (has-below x n)
  where
    go : Dec (x ≡ n) → (x < n → any (eqb x) (below n) ≡ true) → (eqb x n || any (eqb x) (below n)) ≡ true
    go (yes e) f = or_left (eqb x n) _ (eq-eqb x n e)
    go (no d) f = or_right (eqb x n) _ (f (omega arith))

pub below-has : (x n : ℕ) → has x (below n) ≡ true → x < n
unfolding any has below
below-has x zero h = absurd (true≢false (sym h))
below-has x (suc n) h = ⊎_elim (λ a. omega (arith, eqb-true x n a)) (λ b. omega (arith, below-has x n b)) (or_cases (eqb x n) _ h)

-- some_below
pub some_give : (p : ℕ → Bool) (n x : ℕ) → x < n → p x ≡ true → some_below p n ≡ true
some_give p n x b h = any_give p (below n) x (has-below x n b) h

pub some_take : (p : ℕ → Bool) (n : ℕ) → some_below p n ≡ true → (x : ℕ) × (x < n) × (p x ≡ true)
some_take p n h = let r = any-take p (below n) h in (r.0, below-has r.0 n r.1, r.2)

pub some_none : (p : ℕ → Bool) (n : ℕ) → some_below p n ≡ false → (x : ℕ) → x < n → p x ≡ false
some_none p n h x b = go (p x) refl
  where
    go : (t : Bool) → p x ≡ t → p x ≡ false
    go true e = absurd (true≢false (sym (some_give p n x b e) ∙ h))
    go false e = e

pub some_zero : (p : ℕ → Bool) → some_below p 0 ≡ false
unfolding any below
some_zero p = refl

pub some_suc : (p : ℕ → Bool) (n : ℕ) → some_below p (suc n) ≡ (p n || some_below p n)
unfolding any below
some_suc p n = refl

pub none_below : (p : ℕ → Bool) (n : ℕ) → ((x : ℕ) → x < n → p x ≡ false) → some_below p n ≡ false
none_below p n f = fails _ (λ h. let r = some_take p n h in true≢false (sym r.2 ∙ f r.0 r.1))

-- a search over the numbers below n: one more passed, found, the end
pub none_more : (p : ℕ → Bool) (x : ℕ) → some_below p x ≡ false → p x ≡ false → some_below p (x + 1) ≡ false
none_more p x a b = ap (some_below p) (native.Mathlib.Numerals.add-one x) ∙ some_suc p x ∙ (rw b a)

pub some_found : (p : ℕ → Bool) (n x : ℕ) → x < n → p x ≡ true → true ≡ some_below p n
some_found p n x b h = sym (some_give p n x b h)

pub none_left : (p : ℕ → Bool) (n x : ℕ) → some_below p x ≡ false → x ≡ n → false ≡ some_below p n
none_left p n x h e = sym (ap (some_below p) (sym e) ∙ h)
