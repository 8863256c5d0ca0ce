-- How many of the numbers below k pass a test. Assumes nothing.
use Rattle.std.specs.Prelude.{◌≡◌, refl, Bool, true, false, ℕ, zero, suc, ◌+◌, ◌-◌, ◌≤◌, ◌<◌}
use Rattle.std.proofs.Common.{add-one, arith}

-- 1 where a test passes, else 0
abbrev pub ind : Bool → ℕ
ind true = 1
ind false = 0

-- the number of j below k with `p j`
unfoldable pub count : (ℕ → Bool) → ℕ → ℕ
count p zero = 0
count p (suc k) = count p k + ind (p k)

pub ind_le : (b : Bool) → ind b ≤ 1
ind_le true = omega arith
ind_le false = omega arith

pub count_none : (p : ℕ → Bool) → count p 0 ≡ 0
unfolding count
count_none p = refl

pub count-more : (p : ℕ → Bool) (k : ℕ) → count p (k + 1) ≡ count p k + ind (p k)
unfolding count
count-more p k = rw add-one refl

pub count_yes : (p : ℕ → Bool) (k : ℕ) → p k ≡ true → count p (k + 1) ≡ count p k + 1
count_yes p k e = rw (count-more, e) refl

pub count_no : (p : ℕ → Bool) (k : ℕ) → p k ≡ false → count p (k + 1) ≡ count p k
count_no p k e = let h : count p (k + 1) ≡ count p k + 0 = rw (count-more, e) refl in omega arith

pub count_le : (p : ℕ → Bool) (k : ℕ) → count p k ≤ k
unfolding count
count_le p zero = omega arith
count_le p (suc k) = omega (arith, count_le p k, ind_le (p k))

grows : (p : ℕ → Bool) (j d : ℕ) → count p j ≤ count p (d + j)
unfolding count
grows p j zero = rw (native.Mathlib.Nat.zero-add) (omega arith)
grows p j (suc d) = rw (native.Mathlib.Nat.suc-add) (omega (arith, grows p j d))

pub count_mono : (p : ℕ → Bool) (j k : ℕ) → j ≤ k → count p j ≤ count p k
count_mono p j k h = let e : k ≡ (k - j) + j = omega arith in rw e (grows p j _)

pub count_ext : (p q : ℕ → Bool) (k : ℕ) → ((j : ℕ) → j < k → p j ≡ q j) → count p k ≡ count q k
unfolding count
count_ext p q zero h = refl
count_ext p q (suc k) h = rw (count_ext p q k (λ j l. h j (omega arith)), h k (omega arith)) refl

pub count-all_no : (p : ℕ → Bool) (k : ℕ) → ((j : ℕ) → j < k → p j ≡ false) → count p k ≡ 0
unfolding count
count-all_no p zero h = refl
count-all_no p (suc k) h = rw (count-all_no p k (λ j l. h j (omega arith)), h k (omega arith)) refl

-- one that passes is counted, and what is counted passes
pub count_pos : (p : ℕ → Bool) (k j : ℕ) → j < k → p j ≡ true → 1 ≤ count p k
count_pos p k j h e = omega (arith, count_yes p j e, count_mono p (j + 1) k (omega arith))

pub count-found : (p : ℕ → Bool) (k : ℕ) → 1 ≤ count p k → (j : ℕ) × (j < k) × (p j ≡ true)
unfolding count
count-found p zero h = absurd (omega arith)
count-found p (suc k) h = go (p k) refl (count-found p k)
  where
    go : (b : Bool) → p k ≡ b → (1 ≤ count p k → (j : ℕ) × (j < k) × (p j ≡ true)) → (j : ℕ) × (j < suc k) × (p j ≡ true)
    go true e f = (k, omega arith, e)
    go false e f =
        let r : (j : ℕ) × (j < k) × (p j ≡ true) = f (omega (arith, rw e at h)) in
        (r.0, omega arith, r.2)

-- counting on from n
pub count_add : (p : ℕ → Bool) (n m : ℕ) → count p (n + m) ≡ count p n + count (λ j. p (n + j)) m
unfolding count
count_add p n zero = rw (native.Mathlib.Nat.add-zero n) (omega arith)
count_add p n (suc m) = rw (native.Mathlib.Nat.add-suc) (omega (arith, count_add p n m))
