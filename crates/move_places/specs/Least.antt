-- The least of the nodes that pass a test, by their keys, found in one pass. Assumes nothing.
use Rattle.std.specs.Prelude.{◌≡◌, refl, Bool, true, false, cond, ◌&&◌, ◌||◌, List, ℕ, ◌+◌, ◌^◌, ◌≤◌, ◌<◌, eqb, ltb, length, get_or, Option, IfSome}
use Rattle.std.proofs.Common.{sym, ap, subst, ◌∙◌, true≢false, arith, ltb-true, ltb-false, eqb-true}
use Rattle.std.proofs.Math.Decide.{ℕ_discrete}
use Rattle.std.proofs.lemmas.Bool.{eqb-false}

-- node x has no atom
abbrev pub empty : List ℕ → ℕ → ℕ → Bool
empty area counts x = eqb (get_or area (counts + x) 0) 0

-- of x and the best up to it, n where there is none yet: x where it passes and has the smaller key
abbrev pub smaller : (ℕ → ℕ) → (ℕ → Bool) → ℕ → ℕ → ℕ → ℕ
smaller key free n best x = cond (free x && (eqb best n || ltb (key x) (key best))) x best

-- n counts are there
pub record CanScan (area : List ℕ) (n counts : ℕ) : Type 0 where
  pub counted : counts + n ≤ length area
  pub numbers : n < 2 ^ 32

pub record CanChoose (area : List ℕ) (n counts : ℕ) (best : Option ℕ) (x : ℕ) : Type 0 where
  pub scan : CanScan area n counts
  pub node : x < n
  pub within : IfSome best (λ b. b < n)

-- the least of the nodes below k that pass; n where none does
pub record Least (key : ℕ → ℕ) (free : ℕ → Bool) (n k best : ℕ) : Type 0 where
  pub within : best ≤ n
  pub passes : best < n → (best < k) × (free best ≡ true)
  pub least : best < n → (y : ℕ) → y < k → free y ≡ true → key best ≤ key y
  pub none : best ≡ n → (y : ℕ) → y < k → free y ≡ false

pub least_none : (key : ℕ → ℕ) (free : ℕ → Bool) (n : ℕ) → Least key free n 0 n
least_none key free n =
    record {
      within = omega arith;
      passes = λ h. absurd (omega arith);
      least = λ h y b. absurd (omega arith);
      none = λ e y b. absurd (omega arith);
    }

-- one node more
pub least_more : {key : ℕ → ℕ} {free : ℕ → Bool} {n k best r : ℕ} → Least key free n k best → k < n → r ≡ smaller key free n best k → Least key free n (k + 1) r
least_more {key} {free} {n} {k} {best} v h is = subst (Least key free n (k + 1)) (sym is) (go (free k) refl (eqb best n) refl (ltb (key k) (key best)) refl)
  where
    -- k is the one
    here : free k ≡ true → ((y : ℕ) → y < k → free y ≡ true → key k ≤ key y) → Least key free n (k + 1) k
    here f g =
        record {
          within = omega arith;
          passes = λ b. (omega arith, f);
          least = λ b y c z. pick y c z (ℕ_discrete y k);
          none = λ e. absurd (omega arith);
        }
      where
        pick : (y : ℕ) → y < k + 1 → free y ≡ true → Dec (y ≡ k) → key k ≤ key y
        pick y c z (yes e) = rw e (omega arith)
        pick y c z (no d) = g y (omega arith) z

    -- the best one stays
    stays : (free k ≡ true → (best < n) × (key best ≤ key k)) → Least key free n (k + 1) best
    stays g =
        record {
          within = v.within;
          passes = λ b. (omega (arith, (v.passes b).0), (v.passes b).1);
          least = λ b y c z. pick b y c z (ℕ_discrete y k);
          none = λ e y c. gone e y c (ℕ_discrete y k);
        }
      where
        pick : best < n → (y : ℕ) → y < k + 1 → free y ≡ true → Dec (y ≡ k) → key best ≤ key y
        pick b y c z (yes e) = rw e (g (sym (ap free e) ∙ z)).1
        pick b y c z (no d) = v.least b y (omega arith) z

        gone : best ≡ n → (y : ℕ) → y < k + 1 → Dec (y ≡ k) → free y ≡ false
        gone e y c (yes d) = ap free d ∙ no_more (free k) refl
          where
            no_more : (t : Bool) → free k ≡ t → free k ≡ false
            no_more true q = absurd (omega (arith, (g q).0))
            no_more false q = q
        gone e y c (no d) = v.none e y (omega arith)

    go : (f : Bool) → free k ≡ f → (e : Bool) → eqb best n ≡ e → (l : Bool) → ltb (key k) (key best) ≡ l → Least key free n (k + 1) (cond (f && (e || l)) k best)
    go true p true q l r = here p (λ y c z. absurd (true≢false (sym z ∙ v.none (eqb-true best n q) y c)))
    go true p false q true r =
        let b : best < n = omega (arith, v.within, eqb-false best n q) in
        here p (λ y c z. omega (arith, ltb-true (key k) (key best) r, v.least b y c z))
    go true p false q false r = stays (λ z. (omega (arith, v.within, eqb-false best n q), ltb-false (key k) (key best) r))
    go false p e q l r = stays (λ z. absurd (true≢false (sym z ∙ p)))

pub least_done : {key : ℕ → ℕ} {free : ℕ → Bool} {n k best : ℕ} → Least key free n k best → k ≡ n → Least key free n n best
least_done {key} {free} {n} {k} {best} v e = subst (λ j. Least key free n j best) e v
