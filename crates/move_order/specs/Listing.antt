-- Laws of the listing: what each turn keeps; so it lists only what is wanted, each once, each behind all that its edges lead to. Assumes nothing.
use Prim.Native.Nat.{ℕ, zero, suc, ◌+◌, ◌≤◌, ◌<◌}
use native.Mathlib.Omega.{arith}
use Rattle.std.proofs.Math.Decide.{ℕ_discrete}
use Rattle.std.specs.Prelude.{◌≡◌, Bool, cond, ◌||◌, eqb}
use Rattle.std.proofs.Math.Path.{refl}
use Rattle.std.proofs.Common.{sym, ap, subst, ◌∙◌, ⊎_elim, true≢false, length-append}
use Rattle.std.proofs.Math.Bool.{true, false, not}
use mathlib.Core.List.{List, [], ◌∷◌, ◌++◌}
use Rattle.std.proofs.Math.ListN.{length, get_or-append}
use Rattle.std.proofs.lemmas.List.{get_or_at}
use borrow.Author.Tests.{eqb-true, eq-eqb, not-true}
use Rattle.graphs.specs.Bools.{or_cases, or_left, or_right, and_left, and_right}
use Rattle.graphs.specs.Lists.{any, has, all_take, has-at, has-place}
use Rattle.move_ledger.specs.Graph.{at}
use Rattle.move_ledger.specs.Listing.{Rising, none, next, has_bound}
use Rattle.move_ledger.specs.Places.{Apart}
use Rattle.move_order.specs.Order.{ready, first, listing}

-- one number behind a list
module _ (l : List ℕ) (x : ℕ) where
  pub snoc_length : length (l ++ x ∷ []) ≡ length l + 1
  snoc_length = simp length-append

  pub snoc_old : (i : ℕ) → i < length l → at (l ++ x ∷ []) i ≡ at l i
  snoc_old i h = get_or-append l (x ∷ []) 0 i h

  pub snoc_new : (i : ℕ) → i ≡ length l → at (l ++ x ∷ []) i ≡ x
  snoc_new i h = get_or_at l x [] 0 i (sym h)

pub has_snoc : (z x : ℕ) (l : List ℕ) → has z (l ++ x ∷ []) ≡ (has z l || eqb z x)
unfolding has any
has_snoc z x [] = swap (eqb z x)
  where
    swap : (a : Bool) → (a || false) ≡ a
    swap true = refl
    swap false = refl
has_snoc z x (y ∷ l) = ap (λ t. eqb z y || t) (has_snoc z x l) ∙ assoc (eqb z y) (any (eqb z) l) (eqb z x)
  where
    assoc : (a b c : Bool) → (a || (b || c)) ≡ ((a || b) || c)
    assoc true b c = refl
    assoc false b c = refl

-- a first member that passes is a member, and passes
pub first_is : (p : ℕ → Bool) (l : List ℕ) → any p l ≡ true → (has (first p l) l ≡ true) × (p (first p l) ≡ true)
unfolding first any has
first_is p [] h = absurd (true≢false (sym h))
first_is p (x ∷ l) h = go (p x) refl (λ q. first_is p l q) h
  where
    go : (t : Bool) → p x ≡ t → (any p l ≡ true → (has (first p l) l ≡ true) × (p (first p l) ≡ true)) → (t || any p l) ≡ true
        → (has (cond t x (first p l)) (x ∷ l) ≡ true) × (p (cond t x (first p l)) ≡ true)
    go true q f m = (or_left (eqb x x) _ (eq-eqb x x refl), q)
    go false q f m = let r = f m in (or_right (eqb (first p l) x) _ r.0, r.1)

-- and of a rising list it is the least one
pub first_least : (p : ℕ → Bool) {b : ℕ} {l : List ℕ} → Rising b l → (z : ℕ) → has z l ≡ true → p z ≡ true → first p l ≤ z
unfolding first any has
first_least p none z m h = absurd (true≢false (sym m))
first_least p (next {x} {l} k r) z m h = go (p x) refl (λ n. first_least p r z n h)
  where
    go : (t : Bool) → p x ≡ t → (any (eqb z) l ≡ true → first p l ≤ z) → cond t x (first p l) ≤ z
    go true q f = ⊎_elim (λ a. omega (arith, eqb-true z x a)) (λ n. omega (arith, has_bound z r n)) (or_cases (eqb z x) _ m)
    go false q f = ⊎_elim (λ a. absurd (true≢false (sym h ∙ ap p (eqb-true z x a) ∙ q))) f (or_cases (eqb z x) _ m)

module _ (e : ℕ → ℕ → Bool) (w : ℕ → Bool) (ks : List ℕ) where
  -- what is ready: wanted, not listed, and each of its edges to ks leads to a listed one
  pub record Fit (listed : List ℕ) (x : ℕ) : Type 0 where
    pub want : w x ≡ true
    pub new : has x listed ≡ false
    pub led : (y : ℕ) → has y ks ≡ true → e x y ≡ true → has y listed ≡ true

  pub ready_fit : (listed : List ℕ) (x : ℕ) → ready e w ks listed x ≡ true → Fit listed x
  unfolding ready
  ready_fit listed x h =
      let r = and_right (w x) _ h in
      record {
        want = and_left (w x) _ h;
        new = not-true _ (and_left (not (has x listed)) _ r);
        led = λ y m i. go y i (all_take (λ Y. not (e x Y) || has Y listed) ks (and_right (not (has x listed)) _ r) y m);
      }
    where
      go : (y : ℕ) → e x y ≡ true → (not (e x y) || has y listed) ≡ true → has y listed ≡ true
      go y i q = rw i at q

  -- what each turn keeps, the listing keeps
  pub keeps : (P : List ℕ → Type 0) → ((l : List ℕ) (x : ℕ) → P l → has x ks ≡ true → Fit l x → P (l ++ x ∷ []))
      → (k : ℕ) (l : List ℕ) → P l → P (listing e w ks k l)
  unfolding listing
  keeps P step zero l h = h
  keeps P step (suc k) l h = go (any (ready e w ks l) ks) refl (λ m q. keeps P step k m q)
    where
      go : (t : Bool) → any (ready e w ks l) ks ≡ t → ((m : List ℕ) → P m → P (listing e w ks k m)) → P (cond t (listing e w ks k (l ++ first (ready e w ks l) ks ∷ [])) l)
      go true q f = let r = first_is (ready e w ks l) ks q in f (l ++ first (ready e w ks l) ks ∷ []) (step l _ h r.0 (ready_fit l _ r.1))
      go false q f = h

  -- at most k more
  pub few : (k : ℕ) (l : List ℕ) → length (listing e w ks k l) ≤ length l + k
  unfolding listing
  few zero l = omega arith
  few (suc k) l = go (any (ready e w ks l) ks) (few k (l ++ first (ready e w ks l) ks ∷ []))
    where
      go : (t : Bool) → length (listing e w ks k (l ++ first (ready e w ks l) ks ∷ [])) ≤ length (l ++ first (ready e w ks l) ks ∷ []) + k
          → length (cond t (listing e w ks k (l ++ first (ready e w ks l) ks ∷ [])) l) ≤ length l + suc k
      go true f = omega (arith, f, snoc_length l (first (ready e w ks l) ks))
      go false f = omega arith

  -- only what is wanted
  abbrev pub Only : List ℕ → Type 0
  Only l = (x : ℕ) → has x l ≡ true → w x ≡ true

  pub only-wanted : (k : ℕ) (l : List ℕ) → Only l → Only (listing e w ks k l)
  only-wanted = keeps Only (λ l x h m f z q. ⊎_elim (h z) (λ a. rw (eqb-true z x a) f.want) (or_cases (has z l) _ (sym (has_snoc z x l) ∙ q)))

  -- each once
  pub listed_once : (k : ℕ) (l : List ℕ) → Apart l → Apart (listing e w ks k l)
  listed_once = keeps Apart step
    where
      step : (l : List ℕ) (x : ℕ) → Apart l → has x ks ≡ true → Fit l x → Apart (l ++ x ∷ [])
      step l x d m f i j a b q = go (ℕ_discrete j (length l))
        where
          short : j < length l + 1
          short = omega (arith, b, snoc_length l x)

          before : i < length l
          before = omega (arith, short)

          go : Dec (j ≡ length l) → ⊥
          go (yes z) = true≢false (sym (subst (λ u. has u l ≡ true) (sym (snoc_old l x i before) ∙ q ∙ snoc_new l x j z) (has-at l i before)) ∙ f.new)
          go (no z) = let c : j < length l = omega (arith, short) in d i j a c (sym (snoc_old l x i before) ∙ q ∙ snoc_old l x j c)

  -- each behind all that its edges lead to
  abbrev pub Behind : List ℕ → Type 0
  Behind l = (i : ℕ) → i < length l → (y : ℕ) → has y ks ≡ true → e (at l i) y ≡ true → (j : ℕ) × (j < i) × (at l j ≡ y)

  pub listed_behind : (k : ℕ) (l : List ℕ) → Behind l → Behind (listing e w ks k l)
  listed_behind = keeps Behind step
    where
      step : (l : List ℕ) (x : ℕ) → Behind l → has x ks ≡ true → Fit l x → Behind (l ++ x ∷ [])
      step l x d m f i b y n q = go (ℕ_discrete i (length l))
        where
          short : i < length l + 1
          short = omega (arith, b, snoc_length l x)

          go : Dec (i ≡ length l) → (j : ℕ) × (j < i) × (at (l ++ x ∷ []) j ≡ y)
          go (yes z) =
              let r = has-place y l (f.led y n (sym (ap (λ u. e u y) (snoc_new l x i z)) ∙ q)) in
              (r.0, omega (arith, r.1), snoc_old l x r.0 r.1 ∙ r.2)
          go (no z) =
              let c : i < length l = omega (arith, short) in
              let r = d i c y n (sym (ap (λ u. e u y) (snoc_old l x i c)) ∙ q) in
              (r.0, r.1, snoc_old l x r.0 (omega (arith, r.1)) ∙ r.2)
