-- Merges of an area followed to their ends, by doubling. Assumes nothing.
use Rattle.std.specs.Prelude.{ℕ, ◌+◌, ◌-◌, ◌<◌, ◌≤◌, ◌≡◌, Bool, not, ◌&&◌, List, get_or, length, eqb}
use native.Mathlib.Omega.{arith}
use Rattle.std.proofs.Math.Decide.{dec_lt}
use Rattle.std.proofs.Math.Path.{refl, ap}
use Rattle.std.proofs.Common.{sym, ◌∙◌}
use Rattle.std.proofs.Math.Bool.{true, false, cond}
use Rattle.std.proofs.Math.Dec.{ltb}
use borrow.Author.Tests.{eqb-false, ne_eqb, lt-ltb, le-ltb, not-true}
use Rattle.graphs.specs.Bools.{alike}
use Rattle.graphs.specs.Lists.{some_below, below, some_give, some_take}
use Rattle.graphs.specs.Walk.{Walk, cyclic}
use Rattle.graphs.specs.Walks.{cyclic_walk, acyclic_walk, sources-below, walk_from}
use Rattle.merge_state.specs.declared.Sizes.{Sizes}
use Rattle.merge_state.specs.State.{None}
use Rattle.merge_state.specs.Merges.{ending, merged_into}
use Rattle.merge_state.specs.Ends.{step-take, further, settled, ended, ring_goes_on}
use Rattle.merge_area.specs.Layout.{room, cell, head, into}
use Rattle.merge_area.specs.Read.{mode_in, into_in}
use Rattle.merge_area.specs.Within.{Within}
use Rattle.merge_area.specs.Consistent.{lane_faults}
use Rattle.merge_area.specs.Faults.{part_free}

-- a merge is one of the first n chunks, into one of them
abbrev pub Range : (ℕ → ℕ) → ℕ → Type 0
Range f n = (x : ℕ) → (f x ≡ None → ⊥) → (x < n) × (f x < n)

-- y is where x's merges lead after m or more of them
pub record Far (f : ℕ → ℕ) (m x y : ℕ) : Type 0 where
  pub steps : ℕ
  pub enough : m ≤ steps
  pub is : y ≡ ending f steps x

-- n numbers, each below n
pub record Inside (n : ℕ) (l : List ℕ) : Type 0 where
  pub long : n ≤ length l
  pub each : (x : ℕ) → x < n → get_or l x 0 < n

-- where the merges of the first n chunks lead after m or more of them
pub record Led (f : ℕ → ℕ) (n m : ℕ) (l : List ℕ) : Type 0 where
  pub inside : Inside n l
  pub far : (x : ℕ) → x < n → Far f m x (get_or l x 0)

-- each is led on from where it was
pub record Doubled (n : ℕ) (l l' : List ℕ) : Type 0 where
  pub inside : Inside n l'
  pub led : (f : ℕ → ℕ) (m : ℕ) → Led f n m l → Led f n (m + m) l'

-- the merges can be followed
pub record CanFollow (z : Sizes) (a : List ℕ) (n : ℕ) : Type 0 where
  pub within : Within z
  pub long : room z ≤ length a
  pub few : n ≤ z.chunks
  pub on : mode_in z a ≡ true
  pub range : Range (into_in z a) n

-- the merges of an area, by their numbers
module _ (z : Sizes) (a : List ℕ) where
  pub into-at : (x : ℕ) → mode_in z a ≡ true → x < z.chunks → into_in z a x ≡ cell a (into z x)
  unfolding into_in
  into-at x m b = rw (m, lt-ltb x z.chunks b)

  pub into-off : mode_in z a ≡ false → (x : ℕ) → into_in z a x ≡ None
  unfolding into_in
  into-off m x = rw m

  pub into_past : (x : ℕ) → z.chunks ≤ x → into_in z a x ≡ None
  unfolding into_in
  into_past x b = go (mode_in z a)
    where
      go : (m : Bool) → cond (m && ltb x z.chunks) (cell a (into z x)) None ≡ None
      go true = rw (le-ltb x z.chunks b)
      go false = refl

  -- no fault of the lane: all merges are in range
  pub lane_range : mode_in z a ≡ true → cell a (head z 1) ≤ z.chunks → lane_faults z a ≡ 0 → Range (into_in z a) (cell a (head z 1))
  unfolding lane_faults
  lane_range m fits h x q = elim (dec_lt x z.chunks) [
    | no b ↦ absurd (q (into_past x (omega arith)))
    | yes b ↦
        let made = cell a (head z 1) in
        let e = into-at x m b in
        elim (dec_lt x made) [
          | yes l ↦
              let p : into z 0 + x ≡ into z x = omega arith in
              let v = part_free a (into z 0) made made (omega (arith, h)) x l (λ k. q (e ∙ ap (cell a) (sym p) ∙ k)) in
              (l, omega (arith, e, ap (cell a) p, v))
          | no l ↦
              let p : into z made + (x - made) ≡ into z x = omega arith in
              let v = part_free a (into z made) (z.chunks - made) 0 (omega (arith, h)) (x - made) (omega arith) (λ k. q (e ∙ ap (cell a) (sym p) ∙ k)) in
              absurd (omega (arith, v))
        ]
  ]

-- one merge, or none
pub first_step : (f : ℕ → ℕ) (x : ℕ) → cond (eqb (f x) None) x (f x) ≡ ending f 1 x
unfolding ending
first_step f x = refl

pub first_far : (f : ℕ → ℕ) (x : ℕ) {y : ℕ} → y ≡ cond (eqb (f x) None) x (f x) → Far f 1 x y
first_far f x e = record { steps = 1; enough = omega arith; is = e ∙ first_step f x }

-- a leads on from where b leads
pub far_on : {f : ℕ → ℕ} {m k x y v : ℕ} → Far f m x y → Far f k y v → Far f (m + k) x v
far_on {f} {m} {k} {x} {y} {v} a b = record {
  steps = a.steps + b.steps;
  enough = omega (arith, a.enough, b.enough);
  is = b.is ∙ ap (ending f b.steps) a.is ∙ further f a.steps b.steps x;
}

pub far_less : {f : ℕ → ℕ} {m k x y : ℕ} → k ≤ m → Far f m x y → Far f k x y
far_less h a = record { steps = a.steps; enough = omega (arith, a.enough); is = a.is }

-- no closed walk of merges, and as many steps as chunks: that is the end
module _ (f : ℕ → ℕ) (n : ℕ) (range : Range f n) {l : List ℕ} {m : ℕ} (led : Led f n m l) (enough : n ≤ m) where
  pub led_end : ((x : ℕ) → Walk (merged_into f) x x → ⊥) → (x : ℕ) → x < n → get_or l x 0 ≡ ending f n x
  led_end none x b =
      let v = led.far x b in
      let e : v.steps ≡ n + (v.steps - n) = omega (arith, v.enough) in
      v.is ∙ ap (λ k. ending f k x) e ∙ settled f n (v.steps - n) x (ended f n range none x)

  -- some merge is left
  abbrev pub left : ℕ → Bool
  left x = not (eqb (f (get_or l x 0)) None)

  sources : (x y : ℕ) → merged_into f x y ≡ true → x < n
  sources x y h = (range x (step-take f x y h).0).0

  pub ring_is : some_below left n ≡ cyclic (merged_into f) (below n)
  ring_is = alike _ _ there back
    where
      none : cyclic (merged_into f) (below n) ≡ false → (x : ℕ) → Walk (merged_into f) x x → ⊥
      none h = (acyclic_walk (merged_into f) (below n) (sources-below sources)).0 h

      there : some_below left n ≡ true → cyclic (merged_into f) (below n) ≡ true
      there h = go (cyclic (merged_into f) (below n)) refl
        where
          go : (t : Bool) → cyclic (merged_into f) (below n) ≡ t → t ≡ true
          go true q = refl
          go false q =
              let r = some_take left n h in
              absurd (eqb-false _ None (not-true _ r.2) (ap f (led_end (none q) r.0 r.1) ∙ ended f n range (none q) r.0))

      back : cyclic (merged_into f) (below n) ≡ true → some_below left n ≡ true
      back h =
          let w = (cyclic_walk (merged_into f) (below n) (sources-below sources)).0 h in
          let x = w.0 in
          let b = walk_from sources w.1 in
          let v = led.far x b in
          some_give left n x b (ap not (ne_eqb _ None (λ q. ring_goes_on f v.steps x w.1 (ap f (sym v.is) ∙ q))))
