-- Laws of the places of a list: which members pass, where one stands, one put at a place. Assumes nothing.
use Rattle.std.specs.Prelude.{ℕ, suc, ◌+◌, ◌≤◌, ◌<◌, ◌≡◌, Bool, cond, ◌&&◌, ◌||◌, List, [], ◌∷◌, ◌++◌, eqb, set}
use Rattle.std.proofs.Common.{arith, sym, ap, subst, ◌∙◌, true≢false, length-append}
use Rattle.std.proofs.Math.Decide.{ℕ_discrete}
use Rattle.std.proofs.Math.Path.{refl}
use Rattle.std.proofs.Math.Bool.{true, false, and-false}
use Rattle.std.proofs.Math.Dec.{ltb}
use Rattle.std.proofs.Math.ListN.{length, length-set, get_or-append}
use Rattle.std.proofs.Math.Seq.{get_or-set_same, get_or-set_other}
use Rattle.std.proofs.lemmas.List.{get_or_at}
use borrow.Author.Tests.{ltb-true, ltb-false, eqb-true, lt-ltb, le-ltb}
use Rattle.graphs.specs.Lists.{any, has, has-at}
use Rattle.move_ledger.specs.Graph.{at}
use Rattle.move_ledger.specs.Ledger.{kept, index, put}

-- the members that pass
pub has_kept : (p : ℕ → Bool) (z : ℕ) (l : List ℕ) → has z (kept p l) ≡ (has z l && p z)
unfolding kept has any
has_kept p z [] = refl
has_kept p z (x ∷ l) = go (p x) refl (eqb z x) refl (has_kept p z l)
  where
    go : (t : Bool) → p x ≡ t → (u : Bool) → eqb z x ≡ u → any (eqb z) (kept p l) ≡ (any (eqb z) l && p z) → any (eqb z) (cond t (x ∷ kept p l) (kept p l)) ≡ ((u || any (eqb z) l) && p z)
    go true q true r h = rw r (sym (ap p (eqb-true z x r) ∙ q))
    go true q false r h = rw r h
    go false q true r h = h ∙ ap (λ t. any (eqb z) l && t) (ap p (eqb-true z x r) ∙ q) ∙ and-false (any (eqb z) l) ∙ sym (ap p (eqb-true z x r) ∙ q)
    go false q false r h = h

-- a member's place
pub index-has : (X : ℕ) (sets : List ℕ) → has X sets ≡ true → (index X sets < length sets) × (at sets (index X sets) ≡ X)
unfolding index has any
index-has X [] h = absurd (true≢false (sym h))
index-has X (y ∷ ys) h = go (eqb X y) refl (index-has X ys)
  where
    go : (t : Bool) → eqb X y ≡ t → (any (eqb X) ys ≡ true → (index X ys < length ys) × (at ys (index X ys) ≡ X))
        → (cond t 0 (suc (index X ys)) < suc (length ys)) × (at (y ∷ ys) (cond t 0 (suc (index X ys))) ≡ X)
    go true q f = (omega arith, sym (eqb-true X y q))
    go false q f = let r : (index X ys < length ys) × (at ys (index X ys) ≡ X) = f (rw q at h) in (omega (arith, r.0), r.1)

-- one number behind a list
module _ (seen : List ℕ) (T : ℕ) where
  snoc_old : (i : ℕ) → i < length seen → at (seen ++ T ∷ []) i ≡ at seen i
  snoc_old i h = get_or-append seen (T ∷ []) 0 i h

  snoc_new : (i : ℕ) → i ≡ length seen → at (seen ++ T ∷ []) i ≡ T
  snoc_new i h = get_or_at seen T [] 0 i (sym h)

  snoc_length : length (seen ++ T ∷ []) ≡ length seen + 1
  snoc_length = simp length-append

-- one number at a place of a list or behind it: the two ways of registering by one law each
module _ (r T : ℕ) (seen : List ℕ) (within : r ≤ length seen) where
  pub put-inside : r < length seen → length (put r T seen) ≡ length seen
  unfolding put
  put-inside h = rw (lt-ltb r (length seen) h) (length-set seen r T)

  pub put_behind : r ≡ length seen → length (put r T seen) ≡ length seen + 1
  unfolding put
  put_behind e = rw (le-ltb r (length seen) (omega arith)) (snoc_length seen T)

  pub put_grows : length seen ≤ length (put r T seen)
  unfolding put
  put_grows = go (ltb r (length seen))
    where
      go : (t : Bool) → length seen ≤ length (cond t (set seen r T) (seen ++ T ∷ []))
      go true = omega (arith, length-set seen r T)
      go false = omega (arith, snoc_length seen T)

  pub put_most : (N : ℕ) → length seen ≤ N → r < N → length (put r T seen) ≤ N
  unfolding put
  put_most N few free = go (ltb r (length seen)) refl
    where
      go : (t : Bool) → ltb r (length seen) ≡ t → length (cond t (set seen r T) (seen ++ T ∷ [])) ≤ N
      go true q = omega (arith, length-set seen r T)
      go false q = omega (arith, snoc_length seen T, ltb-false r (length seen) q)

  pub put-there : r < length (put r T seen)
  unfolding put
  put-there = go (ltb r (length seen)) refl
    where
      go : (t : Bool) → ltb r (length seen) ≡ t → r < length (cond t (set seen r T) (seen ++ T ∷ []))
      go true q = omega (arith, length-set seen r T, ltb-true r (length seen) q)
      go false q = omega (arith, snoc_length seen T)

  pub put_same : at (put r T seen) r ≡ T
  unfolding put
  put_same = go (ltb r (length seen)) refl
    where
      go : (t : Bool) → ltb r (length seen) ≡ t → at (cond t (set seen r T) (seen ++ T ∷ [])) r ≡ T
      go true q = get_or-set_same seen r T 0 (ltb-true r (length seen) q)
      go false q = snoc_new seen T r (omega (arith, ltb-false r (length seen) q))

  pub put_other : (i : ℕ) → i < length (put r T seen) → (i ≡ r → ⊥) → (i < length seen) × (at (put r T seen) i ≡ at seen i)
  unfolding put
  put_other i b d = go (ltb r (length seen)) refl b
    where
      go : (t : Bool) → ltb r (length seen) ≡ t → i < length (cond t (set seen r T) (seen ++ T ∷ [])) → (i < length seen) × (at (cond t (set seen r T) (seen ++ T ∷ [])) i ≡ at seen i)
      go true q c = (omega (arith, length-set seen r T), get_or-set_other seen r i T 0 d)
      go false q c =
          let k : i < length seen = omega (arith, snoc_length seen T, ltb-false r (length seen) q) in
          (k, snoc_old seen T i k)

-- no number stands at two places
abbrev pub Apart : List ℕ → Type 0
Apart l = (i j : ℕ) → i < j → j < length l → at l i ≡ at l j → ⊥

-- and none does once a new one is put in its place
pub put_apart : (r T : ℕ) (seen : List ℕ) → r ≤ length seen → has T seen ≡ false → Apart seen → Apart (put r T seen)
put_apart r T seen w new d i j a b = go (ℕ_discrete i r) (ℕ_discrete j r)
  where
    absent : (i : ℕ) → i < length seen → at seen i ≡ T → ⊥
    absent i b e = true≢false (sym (subst (λ u. has u seen ≡ true) e (has-at seen i b)) ∙ new)

    go : Dec (i ≡ r) → Dec (j ≡ r) → at (put r T seen) i ≡ at (put r T seen) j → ⊥
    go (yes e) (yes f) g = omega arith
    go (yes e) (no f) g = let x = put_other r T seen w j b f in absent j x.0 (sym x.1 ∙ sym g ∙ ap (at (put r T seen)) e ∙ put_same r T seen w)
    go (no e) (yes f) g = let x = put_other r T seen w i (omega arith) e in absent i x.0 (sym x.1 ∙ g ∙ ap (at (put r T seen)) f ∙ put_same r T seen w)
    go (no e) (no f) g =
        let x = put_other r T seen w i (omega arith) e in
        let y = put_other r T seen w j b f in
        d i j a y.0 (sym x.1 ∙ g ∙ y.1)
