-- Numbers of lists marked in a table. Assumes nothing.
use Rattle.std.specs.Prelude.{ℕ, ◌+◌, ◌-◌, ◌<◌, ◌≡◌, refl, Bool, true, false, cond, ◌&&◌, ◌||◌, List, get_or, length, set, eqb, leb}
use Rattle.std.proofs.Common.{arith, add-one, sym, ap, ◌∙◌, subst, length-set, get_or-set_same, get_or-set_other, eq-eqb, ne_eqb, eqb-true, leb-true, le-leb}
use Rattle.graphs.specs.Bools.{Same, it, other, same?, alike}
use Rattle.graphs.specs.Lists.{some_below, some_suc, some_zero}
use Rattle.merge_choice.specs.Choice.{lists, size}
use Rattle.merge_choice.specs.Spans.{Span}

-- y is one of the numbers f i, i below n, that g lets through
unfoldable pub hits : (ℕ → Bool) → (ℕ → ℕ) → ℕ → ℕ → Bool
hits g f n y = some_below (λ i. g i && eqb y (f i)) n

-- v is put at these, all else is as before
pub record Marked (g : ℕ → Bool) (f : ℕ → ℕ) (n v : ℕ) (old new : List ℕ) : Type 0 where
  pub long : length new ≡ length old
  pub at : (y : ℕ) → get_or new y 0 ≡ cond (hits g f n y) v (get_or old y 0)

pub marked-none : {g : ℕ → Bool} {f : ℕ → ℕ} {v : ℕ} {l : List ℕ} → Marked g f 0 v l l
unfolding hits
marked-none {g} {f} {v} {l} = record { long = refl; at = λ y. sym (ap (λ b. cond b v (get_or l y 0)) (some_zero (λ i. g i && eqb y (f i)))) }

-- one more number
pub marked_more : {g : ℕ → Bool} {f : ℕ → ℕ} {v i : ℕ} {l₀ l l' : List ℕ} → Marked g f i v l₀ l → (g i ≡ true → f i < length l) → l' ≡ cond (g i) (set l (f i) v) l → Marked g f (i + 1) v l₀ l'
unfolding hits
marked_more {g} {f} {v} {i} {l₀} {l} {l'} m room e = record { long = long (g i) e; at = λ y. at y (g i) refl (same? y (f i)) }
  where
    long : (t : Bool) → l' ≡ cond t (set l (f i) v) l → length l' ≡ length l₀
    long true e = ap length e ∙ (simp length-set m.long)
    long false e = ap length e ∙ m.long

    one_more : (y : ℕ) → some_below (λ j. g j && eqb y (f j)) (i + 1) ≡ ((g i && eqb y (f i)) || some_below (λ j. g j && eqb y (f j)) i)
    one_more y = ap (some_below (λ j. g j && eqb y (f j))) (add-one i) ∙ some_suc (λ j. g j && eqb y (f j)) i

    now : (y : ℕ) {t : Bool} → g i ≡ t → get_or l' y 0 ≡ get_or (cond t (set l (f i) v) l) y 0
    now y q = ap (λ (k : List ℕ). get_or k y 0) (e ∙ ap (λ b. cond b (set l (f i) v) l) q)

    at : (y : ℕ) (t : Bool) → g i ≡ t → Same y (f i) → get_or l' y 0 ≡ cond (some_below (λ j. g j && eqb y (f j)) (i + 1)) v (get_or l₀ y 0)
    at y true q (it r) = rw (one_more y, q, eq-eqb y (f i) r) (now y q ∙ ap (λ j. get_or (set l (f i) v) j 0) r ∙ get_or-set_same l (f i) v 0 (room q))
    at y true q (other r) = rw (one_more y, q, ne_eqb y (f i) r) (now y q ∙ get_or-set_other l (f i) y v 0 r ∙ m.at y)
    at y false q s = rw (one_more y, q) (now y q ∙ m.at y)

abbrev pub all : ℕ → Bool
all i = true

-- number i from `from` on
abbrev pub part : List ℕ → ℕ → ℕ → ℕ
part items from i = get_or items (from + i) 0

pub record CanMarkList (starts items : List ℕ) (x : ℕ) (marks : List ℕ) : Type 0 where
  pub span : Span starts items x
  pub below : (i : ℕ) → i < length items → get_or items i 0 < length marks

-- the list of a candidate's module is empty
abbrev pub empty : List ℕ → List ℕ → ℕ → Bool
empty candidate starts i = eqb (size (lists starts starts) (get_or candidate i 0)) 0

abbrev pub dynamic : List ℕ → ℕ → Bool
dynamic roles d = eqb (get_or roles d 0) 1

-- all numbers are put
pub marked-end : {g : ℕ → Bool} {f : ℕ → ℕ} {v i n : ℕ} {l₀ l : List ℕ} → i ≡ n → Marked g f i v l₀ l → Marked g f n v l₀ l
marked-end {g} {f} {v} {i} {n} {l₀} {l} e m = subst (λ k. Marked g f k v l₀ l) e m

-- no number lies between two starts
pub none_between : (a b : ℕ) → leb b a ≡ eqb (b - a) 0
none_between a b = alike _ _ (λ h. eq-eqb (b - a) 0 (omega (arith, leb-true b a h))) (λ h. le-leb b a (omega (arith, eqb-true (b - a) 0 h)))

-- a choice whose test is known
pub is_second : (b : Bool) (x y : List ℕ) → b ≡ false → y ≡ cond b x y
is_second b x y h = rw h

pub is_first : (b : Bool) (x y : List ℕ) → b ≡ true → x ≡ cond b x y
is_first b x y h = rw h

pub put-by : {b d : Bool} {l : List ℕ} (x y : List ℕ) → b ≡ d → l ≡ cond b x y → l ≡ cond d x y
put-by x y e h = h ∙ ap (λ t. cond t x y) e
