-- Sets laid out in lanes, and what their distinctness says. Assumes nothing.
use Rattle.std.specs.Prelude.{ℕ, ◌+◌, ◌*◌, ◌^◌, ◌≤◌, ◌<◌, ◌≡◌, refl, Bool, true, false, not, List, eqb, length, take, drop}
use Rattle.std.proofs.Common.{arith, sym, ap, ◌∙◌, subst, eqb-true}
use Rattle.std.proofs.Math.Decide.{ℕ_discrete, dec_lt}
use Rattle.std.proofs.lemmas.Bool.{eqb-false}
use Rattle.graphs.specs.Bools.{Decides, fails, same_decides}
use Rattle.graphs.specs.Lists.{some_below, some_take, some_none}
use Rattle.graphs.specs.Square.{index_column}
use Rattle.entry_set.specs.declared.EntrySet.{EntrySet}
use Rattle.entry_set.specs.Sets.{value, number, Holds}
use Rattle.entry_set.specs.SetLaws.{holds-below}
use Rattle.entry_set.specs.Joined.{parts}
use Rattle.entry_set.specs.Lanes.{lanes, set_lanes}
use Rattle.entry_set.specs.LaneLaws.{lanes-set, lanes-other, length-set_strided}
use Rattle.set_order.specs.Order.{lane_set, Distinct}

-- set i of a list of sets of w numbers each
abbrev pub nth_set : List ℕ → ℕ → ℕ → ℕ
nth_set sets w i = value (take w (drop (i * w) sets))

-- set i of those of which the words stand in a row from `at` on
abbrev pub row_set : List ℕ → ℕ → ℕ → ℕ
row_set l at i = lanes l (at + 8 * i) 1

-- `set` gives the set of `key i` for each i below a
pub record Gives (key : ℕ → ℕ) (a : ℕ) (set : ℕ → EntrySet → Type 0) : Type 0 where
  pub of : (i : ℕ) (s : EntrySet) → i < a → set i s → Holds (key i) s

-- l has room for a sets in lanes n apart
pub record Room (a n : ℕ) (l : List ℕ) : Type 0 where
  pub few : a ≤ n
  pub room : 8 * n ≤ length l

pub record CanLay (sets : List ℕ) (w a n : ℕ) (l : List ℕ) : Type 0 where
  pub narrow : w ≤ 4
  pub full : a * w ≤ length sets
  pub to : Room a n l

pub record CanLayRow (area : List ℕ) (at a n : ℕ) (l : List ℕ) : Type 0 where
  pub full : at + 8 * a ≤ length area
  pub to : Room a n l

-- an order of a numbers, and scratch for it
pub record Scratch (a n : ℕ) (order scratch : List ℕ) : Type 0 where
  pub numbers : n < 2 ^ 32
  pub ordered : a ≤ length order
  pub room : a ≤ length scratch

pub record CanTell (sets : List ℕ) (w a n : ℕ) (l order scratch : List ℕ) : Type 0 where
  pub lay : CanLay sets w a n l
  pub sorted : Scratch a n order scratch

pub record CanTellRow (area : List ℕ) (at a n : ℕ) (l order scratch : List ℕ) : Type 0 where
  pub lay : CanLayRow area at a n l
  pub sorted : Scratch a n order scratch

-- l has become l', whose first a sets are those that key gives
pub record Laid (key : ℕ → ℕ) (a n : ℕ) (l l' : List ℕ) : Type 0 where
  pub long : length l' ≡ length l
  pub each : (i : ℕ) → i < a → lanes l' i n ≡ key i

pub laid_none : (key : ℕ → ℕ) (n : ℕ) (l : List ℕ) → Laid key 0 n l l
laid_none key n l = record { long = refl; each = λ i h. absurd (omega arith) }

-- two sets in one row of lanes have no word in common
apart : (n i k x y : ℕ) → i < n → k < n → (i ≡ k → ⊥) → i + x * n ≡ k + y * n → ⊥
apart n i k x y a b d e = d (index_column n x i y k a b (omega arith))

module _ {key : ℕ → ℕ} {n k : ℕ} {l₀ l : List ℕ} (t : Laid key k n l₀ l) where
  pub laid_more : {l' : List ℕ} → k < n → 8 * n ≤ length l₀ → (X : ℕ) → X ≡ key k → key k < 2 ^ 256 → l' ≡ set_lanes l k n X → Laid key (k + 1) n l₀ l'
  laid_more {l'} h room X e small put = record {
    long = ap length put ∙ length-set_strided l k n (parts 32 8 X) ∙ t.long;
    each = λ i b. rw put (go i b (ℕ_discrete i k));
  }
    where
      go : (i : ℕ) → i < k + 1 → Dec (i ≡ k) → lanes (set_lanes l k n X) i n ≡ key i
      go i b (yes q) = rw q (lanes-set l k n X (omega arith) (omega (arith, t.long)) (subst (λ z. z < 2 ^ 256) (sym e) small) ∙ e)
      go i b (no d) = lanes-other l k n X i n (λ x y p q r. apart n i k x y (omega arith) h d r) ∙ t.each i (omega arith)

  pub laid_held : {l' : List ℕ} {s : EntrySet} → k < n → 8 * n ≤ length l₀ → Holds (key k) s → l' ≡ set_lanes l k n (number s) → Laid key (k + 1) n l₀ l'
  laid_held {l'} {s} h room held put = laid_more h room (number s) held.value (holds-below held) put

  pub laid_done : {a : ℕ} → k ≡ a → Laid key a n l₀ l
  laid_done e = subst (λ z. Laid key z n l₀ l) e t

module _ {key : ℕ → ℕ} {a n : ℕ} {l₀ l : List ℕ} (t : Laid key a n l₀ l) where
  -- the laid out sets are distinct where the sets are
  pub laid-distinct : {d : Bool} → Decides (Distinct (lane_set l 0 n) a) d → Decides (Distinct key a) d
  laid-distinct r =
      same_decides (λ q. record { same = λ x y b c e. q.same x y b c (is x b ∙ e ∙ sym (is y c)) })
      (λ q. record { same = λ x y b c e. q.same x y b c (sym (is x b) ∙ e ∙ is y c) }) r
    where
      is : (i : ℕ) → i < a → lane_set l 0 n i ≡ key i
      is i h = ap (λ z. lanes l z n) {x = 0 + i} {y = i} (omega arith) ∙ t.each i h

-- the first a sets aren't distinct: one of them is met again
pub repeats : (key : ℕ → ℕ) (a : ℕ) (d : Bool) → Decides (Distinct key a) d → not d ≡ some_below (λ i. some_below (λ j. eqb (key j) (key i)) i) a
repeats key a d r = go d r
  where
    met : ℕ → Bool
    met i = some_below (λ j. eqb (key j) (key i)) i

    clash : Distinct key a → some_below met a ≡ true → ⊥
    clash f h =
        let p = some_take met a h in
        let q = some_take (λ j. eqb (key j) (key p.0)) p.0 p.2 in
        omega (arith, q.1, f.same q.0 p.0 (omega (arith, p.1, q.1)) p.1 (eqb-true _ _ q.2))

    differ : some_below met a ≡ false → (i j : ℕ) → j < i → i < a → key j ≡ key i → ⊥
    differ h i j b c = eqb-false _ _ (some_none (λ j. eqb (key j) (key i)) i (some_none met a h i c) j b)

    distinct : some_below met a ≡ false → Distinct key a
    distinct h = record { same = λ x y b c e. pick x y b c e (ℕ_discrete x y) (dec_lt x y) }
      where
        pick : (x y : ℕ) → x < a → y < a → key x ≡ key y → Dec (x ≡ y) → Dec (x < y) → x ≡ y
        pick x y b c e (yes q) o = q
        pick x y b c e (no q) (yes o) = absurd (differ h y x o c e)
        pick x y b c e (no q) (no o) = absurd (differ h x y (omega arith) b (sym e))

    found : (u : Bool) → some_below met a ≡ u → (Distinct key a → ⊥) → true ≡ some_below met a
    found true q f = sym q
    found false q f = absurd (f (distinct q))

    go : (d : Bool) → Decides (Distinct key a) d → not d ≡ some_below met a
    go true r = sym (fails (some_below met a) (clash (r.right refl)))
    go false r = found (some_below met a) refl (r.wrong refl)
