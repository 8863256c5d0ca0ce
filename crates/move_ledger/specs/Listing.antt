-- The listing of sets is the one rising list of them. Assumes nothing.
use Rattle.std.specs.Prelude.{ℕ, suc, ◌≤◌, ◌≡◌, refl, Bool, true, false, cond, ◌||◌, List, [], ◌∷◌, ltb, eqb}
use Rattle.std.proofs.Common.{arith, sym, ap, ap₂, subst, ◌∙◌, ⊎_elim, true≢false, ltb-true, ltb-false, eqb-true, eq-eqb, ne_eqb}
use Rattle.std.proofs.Math.Decide.{ℕ_discrete}
use Rattle.std.proofs.Math.Bool.{or_self_left}
use Rattle.std.proofs.lemmas.Bool.{eqb-false}
use Rattle.graphs.specs.Bools.{or_cases, or_left, fails}
use Rattle.graphs.specs.Lists.{any, has}
use Rattle.move_ledger.specs.Graph.{insert, rising}

-- rising, each at least b
pub data Rising : ℕ → List ℕ → Type 0 where
  none : {b : ℕ} → Rising b []
  next : {b x : ℕ} {l : List ℕ} → b ≤ x → Rising (suc x) l → Rising b (x ∷ l)

insert-rising : (x : ℕ) {b : ℕ} {l : List ℕ} → b ≤ x → Rising b l → Rising b (insert x l)
unfolding insert
insert-rising x h none = next h none
insert-rising x {b} h (next {x = y} {l} k r) = go (eqb x y) (ltb x y) refl refl (λ a. insert-rising x a r)
  where
    go : (e t : Bool) → eqb x y ≡ e → ltb x y ≡ t → (suc y ≤ x → Rising (suc y) (insert x l)) → Rising b (cond e (y ∷ l) (cond t (x ∷ y ∷ l) (y ∷ insert x l)))
    go true t p q f = next k r
    go false true p q f = next h (next (ltb-true x y q) r)
    go false false p q f = let d = eqb-false x y p in let g = ltb-false x y q in next k (f (omega arith))

pub rising-rising : (l : List ℕ) → Rising 0 (rising l)
unfolding rising
rising-rising [] = none
rising-rising (x ∷ l) = insert-rising x (omega arith) (rising-rising l)

has-insert : (z x : ℕ) (l : List ℕ) → has z (insert x l) ≡ (eqb z x || has z l)
unfolding insert has any
has-insert z x [] = refl
has-insert z x (y ∷ l) = go (eqb x y) (ltb x y) refl (has-insert z x l)
  where
    go : (e t : Bool) → eqb x y ≡ e → any (eqb z) (insert x l) ≡ (eqb z x || any (eqb z) l) → any (eqb z) (cond e (y ∷ l) (cond t (x ∷ y ∷ l) (y ∷ insert x l))) ≡ (eqb z x || (eqb z y || any (eqb z) l))
    go true t p f = rw (eqb-true x y p) (sym (or_self_left (eqb z y) _))
    go false true p f = refl
    go false false p f = ap (λ t. eqb z y || t) f ∙ swap (eqb z y) (eqb z x) _
      where
        swap : (a b c : Bool) → (a || (b || c)) ≡ (b || (a || c))
        swap true true c = refl
        swap true false c = refl
        swap false true c = refl
        swap false false c = refl

pub has-rising : (z : ℕ) (l : List ℕ) → has z (rising l) ≡ has z l
unfolding rising has any
has-rising z [] = refl
has-rising z (x ∷ l) = has-insert z x (rising l) ∙ ap (λ t. eqb z x || t) (has-rising z l)

-- members are at least the bound
pub has_bound : (z : ℕ) {b : ℕ} {l : List ℕ} → Rising b l → has z l ≡ true → b ≤ z
unfolding has any
has_bound z none h = absurd (true≢false (sym h))
has_bound z {b} (next {x} {l} k r) h = ⊎_elim (λ a. omega (arith, eqb-true z x a)) (λ m. omega (arith, has_bound z r m)) (or_cases (eqb z x) _ h)

-- two rising lists with the same members are one
pub one_rising : {b : ℕ} {l m : List ℕ} → Rising b l → Rising b m → ((z : ℕ) → has z l ≡ has z m) → l ≡ m
unfolding has any
one_rising none none f = refl
one_rising none (next {x = y} {l = m} k r) f = absurd (true≢false (sym (f y ∙ or_left (eqb y y) _ (eq-eqb y y refl))))
one_rising (next {x} {l} k r) none f = absurd (true≢false (sym (or_left (eqb x x) _ (eq-eqb x x refl)) ∙ f x))
one_rising {b} (next {x} {l} k r) (next {x = y} {l = m} k' r') f = ap₂ ◌∷◌ heads (one_rising r (subst (λ z. Rising (suc z) m) (sym heads) r') tails)
  where
    bound : (z u : ℕ) (n : List ℕ) → Rising (suc u) n → (eqb z u || any (eqb z) n) ≡ true → u ≤ z
    bound z u n q h = ⊎_elim (λ a. omega (arith, eqb-true z u a)) (λ c. omega (arith, has_bound z q c)) (or_cases (eqb z u) _ h)

    heads : x ≡ y
    heads =
        let p = bound x y m r' (sym (f x) ∙ or_left (eqb x x) _ (eq-eqb x x refl)) in
        let q = bound y x l r (f y ∙ or_left (eqb y y) _ (eq-eqb y y refl)) in
        omega arith

    tails : (z : ℕ) → any (eqb z) l ≡ any (eqb z) m
    tails z = go (ℕ_discrete z x)
      where
        out : (n : List ℕ) → Rising (suc z) n → any (eqb z) n ≡ false
        out n q = fails _ (λ h. omega (arith, has_bound z q h))

        go : Dec (z ≡ x) → any (eqb z) l ≡ any (eqb z) m
        go (yes e) = out l (subst (λ u. Rising (suc u) l) (sym e) r) ∙ sym (out m (subst (λ u. Rising (suc u) m) (sym (e ∙ heads)) r'))
        go (no d) =
            let h : (eqb z x || any (eqb z) l) ≡ (eqb z y || any (eqb z) m) = f z in
            rw (ne_eqb z x d, ne_eqb z y (λ e. d (e ∙ sym heads))) at h
