-- A list written over another at a place, and a part read back. Assumes nothing.
use Rattle.std.specs.Prelude.{◌≡◌, refl, List, [], ◌∷◌, ◌++◌, cond, ℕ, zero, suc, ◌+◌, ◌-◌, ◌≤◌, ◌<◌, ltb, length, get_or, set}
use Rattle.std.proofs.Common.{sym, ap, ◌∙◌, subst, arith, add-zero, zero-add, length-set, length-append, get_or-set_same, get_or-set_other, get_or-append-add, lt-ltb, le-ltb}
use Rattle.std.proofs.Math.Decide.{ℕ_discrete, dec_lt, dec_le}
use Rattle.std.proofs.Math.ListN.{get_or-append}
use Rattle.graphs.specs.Tab.{tab, tab-length, tab-at, is_tab}

-- what stands at k after v was written at `at` over l
abbrev pub cell : ℕ → List ℕ → List ℕ → ℕ → ℕ
cell at v l k = cond (ltb k at) (get_or l k 0) (cond (ltb k (at + length v)) (get_or v (k - at) 0) (get_or l k 0))

-- l with v written at `at`
unfoldable pub patch : ℕ → List ℕ → List ℕ → List ℕ
patch at v l = tab (cell at v l) (length l)

-- k numbers of l from `at` on
unfoldable pub part : ℕ → ℕ → List ℕ → List ℕ
part at k l = tab (λ i. get_or l (at + i) 0) k

pub part_long : (at k : ℕ) (l : List ℕ) → length (part at k l) ≡ k
unfolding part
part_long at k l = tab-length _ k

pub part_at : (at k : ℕ) (l : List ℕ) (i : ℕ) → i < k → get_or (part at k l) i 0 ≡ get_or l (at + i) 0
unfolding part
part_at at k l i h = tab-at _ k i h

pub is_part : (at : ℕ) (l v : List ℕ) → ((i : ℕ) → i < length v → get_or l (at + i) 0 ≡ get_or v i 0) → part at (length v) l ≡ v
unfolding part
is_part at l v h = sym (is_tab v (length v) _ refl (λ i z. sym (h i z)))

pub patch_long : (at : ℕ) (v l : List ℕ) → length (patch at v l) ≡ length l
unfolding patch
patch_long at v l = tab-length _ (length l)

cell_in : (at : ℕ) (v l : List ℕ) (k : ℕ) → at ≤ k → k < at + length v → cell at v l k ≡ get_or v (k - at) 0
cell_in at v l k a b = rw (le-ltb k at a, lt-ltb k (at + length v) b) refl

cell_out : (at : ℕ) (v l : List ℕ) (k : ℕ) → (at ≤ k → at + length v ≤ k) → cell at v l k ≡ get_or l k 0
cell_out at v l k h = elim (dec_lt k at) [
  | yes z ↦ rw (lt-ltb k at z) refl
  | no z ↦ let y = h (omega arith) in rw (le-ltb k at (omega arith), le-ltb k (at + length v) y) refl
]

pub patch_in : (at : ℕ) (v l : List ℕ) (i : ℕ) → i < length v → at + i < length l → get_or (patch at v l) (at + i) 0 ≡ get_or v i 0
unfolding patch
patch_in at v l i a b =
    let e : at + i - at ≡ i = omega arith in
    tab-at _ (length l) (at + i) b ∙ cell_in at v l (at + i) (omega arith) (omega arith) ∙ ap (λ k. get_or v k 0) e

pub patch-out : (at : ℕ) (v l : List ℕ) (k : ℕ) → k < length l → (at ≤ k → at + length v ≤ k) → get_or (patch at v l) k 0 ≡ get_or l k 0
unfolding patch
patch-out at v l k b h = tab-at _ (length l) k b ∙ cell_out at v l k h

-- a list that has v at `at`, and is l elsewhere, is the patch
pub is_patch : (at : ℕ) (v l l' : List ℕ) → length l' ≡ length l → ((i : ℕ) → i < length v → at + i < length l → get_or l' (at + i) 0 ≡ get_or v i 0)
    → ((k : ℕ) → k < length l → (at ≤ k → at + length v ≤ k) → get_or l' k 0 ≡ get_or l k 0) → l' ≡ patch at v l
unfolding patch
is_patch at v l l' e f g = is_tab l' (length l) _ e (λ k b. go k b (dec_le at k) (dec_lt k (at + length v)))
  where
    go : (k : ℕ) → k < length l → Dec (at ≤ k) → Dec (k < at + length v) → get_or l' k 0 ≡ cell at v l k
    go k b (yes x) (yes y) =
        let z : at + (k - at) ≡ k = omega arith in
        sym (ap (λ i. get_or l' i 0) z) ∙ f (k - at) (omega arith) (omega arith) ∙ sym (cell_in at v l k x y)
    go k b (yes x) (no y) = g k b (λ h. omega arith) ∙ sym (cell_out at v l k (λ h. omega arith))
    go k b (no x) y = g k b (λ h. absurd (x h)) ∙ sym (cell_out at v l k (λ h. absurd (x h)))

-- what stands there already
pub patch-same : (at : ℕ) (v l : List ℕ) → part at (length v) l ≡ v → patch at v l ≡ l
patch-same at v l h = sym (is_patch at v l l refl (λ i a b. sym (part_at at (length v) l i a) ∙ ap (λ (u : List ℕ). get_or u i 0) h) (λ k b z. refl))

pub patch-none : (at : ℕ) (l : List ℕ) → patch at [] l ≡ l
patch-none at l = sym (is_patch at [] l l refl (λ i a b. absurd (omega arith)) (λ k b z. refl))

-- the first number of a patch may be written first
pub patch-set : (at x : ℕ) (v l : List ℕ) → at < length l → patch (at + 1) v (set l at x) ≡ patch at (x ∷ v) l
patch-set at x v l b = is_patch at (x ∷ v) l (patch (at + 1) v (set l at x)) (patch_long (at + 1) v (set l at x) ∙ length-set l at x) inside outside
  where
    inside : (i : ℕ) → i < length (x ∷ v) → at + i < length l → get_or (patch (at + 1) v (set l at x)) (at + i) 0 ≡ get_or (x ∷ v) i 0
    inside zero h z =
        rw add-zero (patch-out (at + 1) v (set l at x) at (rw length-set b) (λ q. absurd (omega arith)) ∙ get_or-set_same l at x 0 b)
    inside (suc i) h z =
        let e : at + suc i ≡ at + 1 + i = omega arith in
        rw e (patch_in (at + 1) v (set l at x) i (omega arith) (rw length-set (omega arith)))

    outside : (k : ℕ) → k < length l → (at ≤ k → at + length (x ∷ v) ≤ k) → get_or (patch (at + 1) v (set l at x)) k 0 ≡ get_or l k 0
    outside k h z =
        let ne : k ≡ at → ⊥ = λ q. let y = z (omega arith) in omega arith in
        patch-out (at + 1) v (set l at x) k (rw length-set h) (λ q. let y = z (omega arith) in omega arith) ∙ get_or-set_other l at k x 0 ne

pub part_none : (at : ℕ) (l : List ℕ) → part at 0 l ≡ []
part_none at l = is_part at l [] (λ i h. absurd (omega arith))

pub part-more : (at k : ℕ) (l : List ℕ) → part at (suc k) l ≡ get_or l at 0 ∷ part (at + 1) k l
part-more at k l =
    let e : length (get_or l at 0 ∷ part (at + 1) k l) ≡ suc k = ap suc (part_long (at + 1) k l) in
    subst (λ (i : ℕ). part at i l ≡ get_or l at 0 ∷ part (at + 1) k l) e (is_part at l (get_or l at 0 ∷ part (at + 1) k l) cells)
  where
    cells : (i : ℕ) → i < length (get_or l at 0 ∷ part (at + 1) k l) → get_or l (at + i) 0 ≡ get_or (get_or l at 0 ∷ part (at + 1) k l) i 0
    cells zero h = rw add-zero refl
    cells (suc i) h =
        let e : at + suc i ≡ at + 1 + i = omega arith in
        rw e (sym (part_at (at + 1) k l i (omega (arith, part_long (at + 1) k l))))

-- two patches: one before the other in place, in either order; one over another
pub patch_far : (a b : ℕ) (u v l : List ℕ) → a + length u ≤ b → patch a u (patch b v l) ≡ patch b v (patch a u l)
patch_far a b u v l h = is_patch b v (patch a u l) (patch a u (patch b v l)) (patch_long a u (patch b v l) ∙ patch_long b v l ∙ sym (patch_long a u l)) inside outside
  where
    inside : (i : ℕ) → i < length v → b + i < length (patch a u l) → get_or (patch a u (patch b v l)) (b + i) 0 ≡ get_or v i 0
    inside i z y =
        let x : b + i < length l = omega (arith, patch_long a u l) in
        patch-out a u (patch b v l) (b + i) (omega (arith, patch_long b v l)) (λ w. omega arith) ∙ patch_in b v l i z x

    outside : (k : ℕ) → k < length (patch a u l) → (b ≤ k → b + length v ≤ k) → get_or (patch a u (patch b v l)) k 0 ≡ get_or (patch a u l) k 0
    outside k z y = go (dec_le a k) (dec_lt k (a + length u))
      where
        kl : k < length l
        kl = omega (arith, patch_long a u l)

        out : (a ≤ k → a + length u ≤ k) → get_or (patch a u (patch b v l)) k 0 ≡ get_or (patch a u l) k 0
        out w = patch-out a u (patch b v l) k (omega (arith, patch_long b v l, kl)) w ∙ patch-out b v l k kl y ∙ sym (patch-out a u l k kl w)

        go : Dec (a ≤ k) → Dec (k < a + length u) → get_or (patch a u (patch b v l)) k 0 ≡ get_or (patch a u l) k 0
        go (yes p) (yes r) =
            let s : a + (k - a) ≡ k = omega arith in
            sym (ap (λ (i : ℕ). get_or (patch a u (patch b v l)) i 0) s) ∙ patch_in a u (patch b v l) (k - a) (omega arith) (omega (arith, patch_long b v l, kl))
            ∙ sym (patch_in a u l (k - a) (omega arith) (omega (arith, kl))) ∙ ap (λ (i : ℕ). get_or (patch a u l) i 0) s
        go (yes p) (no r) = out (λ w. omega arith)
        go (no p) r = out (λ w. absurd (p w))

pub patch-over : (a : ℕ) (u v l : List ℕ) → length v ≤ length u → patch a u (patch a v l) ≡ patch a u l
patch-over a u v l h = is_patch a u l (patch a u (patch a v l)) (patch_long a u (patch a v l) ∙ patch_long a v l)
    (λ i z y. patch_in a u (patch a v l) i z (omega (arith, patch_long a v l)))
    (λ k z y. patch-out a u (patch a v l) k (omega (arith, patch_long a v l)) y ∙ patch-out a v l k z (λ w. let x = y w in omega arith))

-- one number of what was written is set
pub patch-cell : (at : ℕ) (v l : List ℕ) (i x : ℕ) → i < length v → at + length v ≤ length l → set (patch at v l) (at + i) x ≡ patch at (set v i x) l
patch-cell at v l i x h b = is_patch at (set v i x) l (set (patch at v l) (at + i) x) (length-set (patch at v l) (at + i) x ∙ patch_long at v l) inside outside
  where
    inside : (j : ℕ) → j < length (set v i x) → at + j < length l → get_or (set (patch at v l) (at + i) x) (at + j) 0 ≡ get_or (set v i x) j 0
    inside j z y = elim (ℕ_discrete j i) [
      | yes q ↦ rw q (get_or-set_same (patch at v l) (at + i) x 0 (omega (arith, patch_long at v l)) ∙ sym (get_or-set_same v i x 0 h))
      | no q ↦ get_or-set_other (patch at v l) (at + i) (at + j) x 0 (omega arith) ∙ patch_in at v l j (omega (arith, length-set v i x)) y ∙ sym (get_or-set_other v i j x 0 q)
    ]

    outside : (k : ℕ) → k < length l → (at ≤ k → at + length (set v i x) ≤ k) → get_or (set (patch at v l) (at + i) x) k 0 ≡ get_or l k 0
    outside k z y =
        let e = length-set v i x in
        let ne : k ≡ at + i → ⊥ = λ q. let w = y (omega arith) in omega arith in
        get_or-set_other (patch at v l) (at + i) k x 0 ne ∙ patch-out at v l k z (λ w. let u = y w in omega arith)

-- what is written behind a list that stands there already makes that list longer
pub patch_append : (at : ℕ) (v w l : List ℕ) → part at (length v) l ≡ v → patch (at + length v) w l ≡ patch at (v ++ w) l
patch_append at v w l e = is_patch at (v ++ w) l (patch (at + length v) w l) (patch_long (at + length v) w l) inside outside
  where
    inside : (i : ℕ) → i < length (v ++ w) → at + i < length l → get_or (patch (at + length v) w l) (at + i) 0 ≡ get_or (v ++ w) i 0
    inside i h b = go (dec_lt i (length v))
      where
        go : Dec (i < length v) → get_or (patch (at + length v) w l) (at + i) 0 ≡ get_or (v ++ w) i 0
        go (yes z) =
            patch-out (at + length v) w l (at + i) b (λ q. absurd (omega arith)) ∙ sym (part_at at (length v) l i z) ∙ ap (λ (u : List ℕ). get_or u i 0) e
            ∙ sym (get_or-append v w 0 i z)
        go (no z) =
            let j : length v + (i - length v) ≡ i = omega arith in
            let a : at + length v + (i - length v) ≡ at + i = omega arith in
            sym (ap (λ (k : ℕ). get_or (patch (at + length v) w l) k 0) a)
            ∙ patch_in (at + length v) w l (i - length v) (omega (arith, length-append v w)) (omega arith)
            ∙ sym (get_or-append-add v w (i - length v) 0) ∙ ap (λ (k : ℕ). get_or (v ++ w) k 0) j

    outside : (k : ℕ) → k < length l → (at ≤ k → at + length (v ++ w) ≤ k) → get_or (patch (at + length v) w l) k 0 ≡ get_or l k 0
    outside k h z = patch-out (at + length v) w l k h (λ q. let y = z (omega arith) in omega (arith, length-append v w))

-- one number set; a list in place of another
pub patch_one : (at x : ℕ) (l : List ℕ) → at < length l → set l at x ≡ patch at (x ∷ []) l
patch_one at x l b = sym (patch-none (at + 1) (set l at x)) ∙ patch-set at x [] l b

pub patch-all : (v l : List ℕ) → length v ≡ length l → patch 0 v l ≡ v
patch-all v l e = sym (is_patch 0 v l v e (λ i a b. ap (λ (k : ℕ). get_or v k 0) (zero-add i)) (λ k b h. absurd (let z = h (omega arith) in omega arith)))
