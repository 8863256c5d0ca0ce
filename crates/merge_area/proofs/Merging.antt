-- Laws of the loops that follow merges to their ends. Assumes nothing.
use Prim.Native.Nat.{ℕ, ◌+◌, ◌^◌, ◌<◌, ◌≤◌}
use native.Mathlib.Omega.{arith}
use native.Mathlib.Decide.{ℕ_discrete}
use native.Mathlib.Nat.{pow-suc}
use mathlib.Core.Path.{◌≡◌, refl, sym, ap, subst, ◌∙◌}
use mathlib.Core.Bool.{true, cond}
use mathlib.Core.List.{List}
use lib.ListN.{get_or, length, set, length-set}
use lib.Seq.{get_or-set_same, get_or-set_other}
use lib.Dec.{eqb}
use borrow.Author.Tests.{eq-eqb, ne_eqb}
use Rattle.merge_state.specs.declared.Sizes.{Sizes}
use Rattle.merge_state.specs.State.{None}
use Rattle.merge_area.specs.Layout.{cell, head, into}
use Rattle.merge_area.specs.Read.{mode_in, into_in}
use Rattle.merge_area.specs.Consistent.{lane_faults}
use Rattle.merge_area.specs.Within.{Headed}
use Rattle.merge_area.specs.Merged.{Range, Far, Inside, Led, Doubled, CanFollow, into-at, lane_range, first_far, far_on, far_less}

-- one step is taken from the first k chunks
pub record Stepped (f : ℕ → ℕ) (n k : ℕ) (l₀ l : List ℕ) : Type 0 where
  pub same : length l ≡ length l₀
  pub long : n ≤ length l
  pub far : (x : ℕ) → x < k → Far f 1 x (get_or l x 0)
  pub inside : (x : ℕ) → x < k → get_or l x 0 < n

module _ (f : ℕ → ℕ) (n : ℕ) where
  pub stepped-none : (l : List ℕ) → n ≤ length l → Stepped f n 0 l l
  stepped-none l h = record { same = refl; long = h; far = λ x b. absurd (omega arith); inside = λ x b. absurd (omega arith) }

  -- where one step leads
  step-inside : (k w : ℕ) → Range f n → k < n → w ≡ f k → cond (eqb w None) k w < n
  step-inside k w range b e = elim (ℕ_discrete w None) [
    | yes q ↦ rw (eq-eqb w None q) b
    | no q ↦ rw (ne_eqb w None q) (rw e (range k (λ i. q (e ∙ i))).1)
  ]

  pub stepped-more : {l₀ l : List ℕ} (k w : ℕ) {v : ℕ} → Stepped f n k l₀ l → Range f n → k < n → w ≡ f k → v ≡ cond (eqb w None) k w → Stepped f n (k + 1) l₀ (set l k v)
  stepped-more {l₀} {l} k w {v} s range b e q =
      record {
        same = simp length-set s.same;
        long = simp length-set s.long;
        far = λ x c. elim (ℕ_discrete x k) [
          | yes p ↦ first_far f x (ap (λ i. get_or (set l k v) i 0) p ∙ get_or-set_same l k v 0 (omega (arith, s.long)) ∙ q ∙ ap (λ u. cond (eqb u None) k u) e ∙ ap (λ i. cond (eqb (f i) None) i (f i)) (sym p))
          | no p ↦ rw (get_or-set_other l k x v 0 p) (s.far x (omega arith))
        ];
        inside = λ x c. elim (ℕ_discrete x k) [
          | yes p ↦ rw (ap (λ i. get_or (set l k v) i 0) p ∙ get_or-set_same l k v 0 (omega (arith, s.long)) ∙ q) (step-inside k w range b e)
          | no p ↦ rw (get_or-set_other l k x v 0 p) (s.inside x (omega arith))
        ];
      }

  pub stepped-done : {l₀ l : List ℕ} {k : ℕ} → Stepped f n k l₀ l → k ≡ n → Led f n 1 l
  stepped-done s e = record { inside = record { long = s.long; each = λ x b. s.inside x (omega arith) }; far = λ x b. s.far x (omega arith) }

-- each of the first k numbers is led on
pub record Doubling (n k : ℕ) (l₀ l : List ℕ) : Type 0 where
  pub same : length l ≡ length l₀
  pub inside : Inside n l
  pub far : (f : ℕ → ℕ) (m : ℕ) → Led f n m l₀ → (x : ℕ) → x < n → Far f m x (get_or l x 0)
  pub further : (f : ℕ → ℕ) (m : ℕ) → Led f n m l₀ → (x : ℕ) → x < k → Far f (m + m) x (get_or l x 0)

module _ (n : ℕ) where
  pub doubling_none : (l : List ℕ) → Inside n l → Doubling n 0 l l
  doubling_none l h = record { same = refl; inside = h; far = λ f m led. led.far; further = λ f m led x b. absurd (omega arith) }

  pub doubling_more : {l₀ l : List ℕ} (k y : ℕ) {v : ℕ} → Doubling n k l₀ l → k < n → y ≡ get_or l k 0 → v ≡ get_or l y 0 → Doubling n (k + 1) l₀ (set l k v)
  doubling_more {l₀} {l} k y {v} s b e q =
      record {
        same = simp length-set s.same;
        inside = record {
          long = simp length-set s.inside.long;
          each = λ x c. elim (ℕ_discrete x k) [
            | yes p ↦ rw (at-k x p) (rw (q, e) (s.inside.each (get_or l k 0) (s.inside.each k b)))
            | no p ↦ rw (get_or-set_other l k x v 0 p) (s.inside.each x c)
          ];
        };
        far = λ f m led x c. elim (ℕ_discrete x k) [
          | yes p ↦ subst (Far f m x) (sym (at-k x p)) (subst (λ i. Far f m i v) (sym p) (far_less {m = m + m} (omega arith) (on f m led)))
          | no p ↦ rw (get_or-set_other l k x v 0 p) (s.far f m led x c)
        ];
        further = λ f m led x c. elim (ℕ_discrete x k) [
          | yes p ↦ subst (Far f (m + m) x) (sym (at-k x p)) (subst (λ i. Far f (m + m) i v) (sym p) (on f m led))
          | no p ↦ rw (get_or-set_other l k x v 0 p) (s.further f m led x (omega arith))
        ];
      }
    where
      at-k : (x : ℕ) → x ≡ k → get_or (set l k v) x 0 ≡ v
      at-k x p = ap (λ i. get_or (set l k v) i 0) p ∙ get_or-set_same l k v 0 (omega (arith, s.inside.long))

      on : (f : ℕ → ℕ) (m : ℕ) → Led f n m l₀ → Far f (m + m) k v
      on f m led = subst (Far f (m + m) k) (ap (λ i. get_or l i 0) (sym e) ∙ sym q) (far_on (s.far f m led k b) (s.far f m led (get_or l k 0) (s.inside.each k b)))

  pub doubling_done : {l₀ l : List ℕ} {k : ℕ} → Doubling n k l₀ l → k ≡ n → Doubled n l₀ l
  doubling_done s e = record { inside = s.inside; led = λ f m led. record { inside = s.inside; far = λ x b. s.further f m led x (omega arith) } }

-- after r rounds
pub record Rounds (n r : ℕ) (l₀ l : List ℕ) : Type 0 where
  pub same : length l ≡ length l₀
  pub inside : Inside n l
  pub led : (f : ℕ → ℕ) → Led f n 1 l₀ → Led f n (2 ^ r) l

module _ (n : ℕ) where
  pub rounds_none : (l : List ℕ) → Inside n l → Rounds n 0 l l
  rounds_none l h = record { same = refl; inside = h; led = λ f a. a }

  pub rounds_more : {l₀ l l' : List ℕ} (r : ℕ) → Rounds n r l₀ l → Doubled n l l' → length l' ≡ length l → Rounds n (r + 1) l₀ l'
  rounds_more {l₀} {l} {l'} r s d q =
      record {
        same = q ∙ s.same;
        inside = d.inside;
        led = λ f a. subst (λ m. Led f n m l') e (d.led f (2 ^ r) (s.led f a));
      }
    where
      e : 2 ^ r + 2 ^ r ≡ 2 ^ (r + 1)
      e = sym (omega (arith, pow-suc 2 r, ap (λ k. 2 ^ k) (native.Mathlib.Numerals.add-one r)))

  pub rounds_done : (f : ℕ → ℕ) {l₀ l : List ℕ} (r : ℕ) → Rounds n r l₀ l → r ≡ 10 → Led f n 1 l₀ → Led f n 1024 l
  rounds_done f {l₀} {l} r s e a = subst (λ k. Led f n (2 ^ k) l) e (s.led f a)

-- the number of a merge, at its place
pub left_at : {z : Sizes} {a : List ℕ} {n x p : ℕ} → CanFollow z a n → x < n → p ≡ into z x → get_or a p 0 ≡ into_in z a x
left_at {z} {a} {n} {x} can b e = ap (cell a) e ∙ sym (into-at z a x can.on (omega (arith, can.few)))

-- recorded merges without a fault
module _ (z : Sizes) (a : List ℕ) where
  pub can_follow : {n : ℕ} → Headed z a → mode_in z a ≡ true → lane_faults z a ≤ 0 → n ≡ cell a (head z 1) → CanFollow z a n
  can_follow {n} h m k e =
      record {
        within = h.within;
        long = h.long;
        few = omega (arith, h.fits, e);
        on = m;
        range = rw e (lane_range z a m h.fits (omega arith));
      }
