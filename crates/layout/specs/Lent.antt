-- A part of a list that was lent and is back: a patch. Assumes nothing.
use Rattle.std.specs.Prelude.{◌≡◌, List, ◌++◌, ℕ, ◌+◌, ◌-◌, ◌≤◌, ◌<◌, length, get_or, take, drop}
use Rattle.std.proofs.Common.{sym, ap, ◌∙◌, subst, arith, ext_get_or, get_or-take, get_or-drop, get_or-append-add, length-take-le}
use Rattle.std.proofs.Math.Decide.{dec_lt}
use Rattle.std.proofs.Math.ListN.{get_or-append}
use borrow.Rule.Slice.PartMut.{mid_of, post_of, put_mid, mid_len, same_len_mid, drop_put}
use Rattle.layout.specs.Patch.{patch, part, part_long, part_at, is_patch}

pub mid_at : (a k : ℕ) (xs : List ℕ) (j : ℕ) → j < k → get_or (mid_of a k xs) j 0 ≡ get_or xs (a + j) 0
mid_at a k xs j h = get_or-take k (drop a xs) j 0 h ∙ get_or-drop a xs j 0

module _ (a e : ℕ) (xs ys : List ℕ) (h : a ≤ e) (g : e ≤ length xs) (l : length ys ≡ e - a) where
  pub put_long : length (put_mid a (e - a) xs ys) ≡ length xs
  put_long = same_len_mid a (e - a) xs ys (l ∙ sym (mid_len a e xs g))

  pub put-inside : (j : ℕ) → j < e - a → get_or (put_mid a (e - a) xs ys) (a + j) 0 ≡ get_or ys j 0
  put-inside j z =
      subst (λ (i : ℕ). get_or (put_mid a (e - a) xs ys) (i + j) 0 ≡ get_or ys j 0) (length-take-le a xs (omega arith))
      (get_or-append-add (take a xs) (ys ++ post_of a (e - a) xs) j 0 ∙ get_or-append ys (post_of a (e - a) xs) 0 j (omega arith))

  pub put-before : (i : ℕ) → i < a → get_or (put_mid a (e - a) xs ys) i 0 ≡ get_or xs i 0
  put-before i z = get_or-append (take a xs) (ys ++ post_of a (e - a) xs) 0 i (omega (arith, length-take-le a xs (omega arith))) ∙ get_or-take a xs i 0 z

  pub put-after : (i : ℕ) → e ≤ i → get_or (put_mid a (e - a) xs ys) i 0 ≡ get_or xs i 0
  put-after i z =
      let q : e + (i - e) ≡ i = omega arith in
      subst (λ (k : ℕ). get_or (put_mid a (e - a) xs ys) k 0 ≡ get_or xs k 0) q
      (sym (get_or-drop e (put_mid a (e - a) xs ys) (i - e) 0) ∙ ap (λ (m : List ℕ). get_or m (i - e) 0) (drop_put a e xs ys h g l) ∙ get_or-drop e xs (i - e) 0)

-- what is lent is a part
pub mid_part : (a e : ℕ) (xs : List ℕ) → a ≤ e → e ≤ length xs → mid_of a (e - a) xs ≡ part a (e - a) xs
mid_part a e xs h g =
    ext_get_or 0 (mid_of a (e - a) xs) (part a (e - a) xs) (mid_len a e xs g ∙ sym (part_long a (e - a) xs))
    (λ k z. let y : k < e - a = omega (arith, mid_len a e xs g) in mid_at a (e - a) xs k y ∙ sym (part_at a (e - a) xs k y))

-- what comes back is a patch
pub put-patch : (a e : ℕ) (xs ys : List ℕ) → a ≤ e → e ≤ length xs → length ys ≡ e - a → put_mid a (e - a) xs ys ≡ patch a ys xs
put-patch a e xs ys h g l =
    is_patch a ys xs (put_mid a (e - a) xs ys) (put_long a e xs ys h g l) (λ i b z. put-inside a e xs ys h g l i (omega arith)) (λ k b z. go k z (dec_lt k a))
  where
    go : (k : ℕ) → (a ≤ k → a + length ys ≤ k) → Dec (k < a) → get_or (put_mid a (e - a) xs ys) k 0 ≡ get_or xs k 0
    go k z (yes y) = put-before a e xs ys h g l k y
    go k z (no y) = let w = z (omega arith) in put-after a e xs ys h g l k (omega arith)
