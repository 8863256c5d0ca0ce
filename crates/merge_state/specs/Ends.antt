-- Following merges to their end. Assumes nothing.
use Prim.Native.Nat.{ℕ, zero, suc, ◌+◌, ◌<◌, ◌≤◌}
use Rattle.std.proofs.Common.{arith, sym, subst, ◌∙◌, ⊎_elim, true≢false}
use Rattle.std.proofs.Math.Decide.{ℕ_discrete}
use Rattle.std.specs.Prelude.{◌≡◌, Bool, true, false, eqb}
use Rattle.std.proofs.Math.Path.{refl, ap}
use Rattle.std.proofs.Math.Bool.{not, cond}
use borrow.Author.Tests.{eqb-true, eqb-false, eq-eqb, ne_eqb, not-true}
use Rattle.graphs.specs.Bools.{and_left, and_right, and_both}
use Rattle.graphs.specs.Total.{is0, whites, total_change, total_le}
use Rattle.graphs.specs.Walk.{Walk, one, more}
use Rattle.graphs.specs.Walks.{join}
use Rattle.graphs.specs.Walks as walks
use Rattle.merge_state.specs.State.{None, put, put_same, put_other}
use Rattle.merge_state.specs.Merges.{ending, merged_into}

fewer-whites : (n x : ℕ) (c : ℕ → ℕ) → x < n → c x ≡ 0 → whites n (put c x 1) + 1 ≡ whites n c
unfolding whites
fewer-whites n x c b p =
    let e = total_change (λ y. is0 (c y)) (λ y. is0 (put c x 1 y)) n x b (λ j b r. ap is0 (put_other c x 1 j r)) in
    omega (arith, e, ap is0 p, ap is0 (put_same c x 1))

module _ (into : ℕ → ℕ) where
  pub step_give : (x : ℕ) → (into x ≡ None → ⊥) → merged_into into x (into x) ≡ true
  unfolding merged_into
  step_give x h = and_both _ _ (ap not (ne_eqb (into x) None h)) (eq-eqb (into x) (into x) refl)

  pub step-take : (x y : ℕ) → merged_into into x y ≡ true → (into x ≡ None → ⊥) × (into x ≡ y)
  unfolding merged_into
  step-take x y h = (eqb-false _ _ (not-true _ (and_left (not (eqb (into x) None)) _ h)), eqb-true _ _ (and_right (not (eqb (into x) None)) _ h))

  pub stop : (k x : ℕ) → into x ≡ None → ending into k x ≡ x
  unfolding ending
  stop zero x h = refl
  stop (suc k) x h = ap (λ b. cond b x (ending into k (into x))) (eq-eqb (into x) None h)

  pub go_on : (k x : ℕ) → (into x ≡ None → ⊥) → ending into (suc k) x ≡ ending into k (into x)
  unfolding ending
  go_on k x h = ap (λ b. cond b x (ending into k (into x))) (ne_eqb (into x) None h)

  none_yet : (x : ℕ) → ending into zero x ≡ x
  unfolding ending
  none_yet x = refl

  add_zero_left : (b : ℕ) → zero + b ≡ b
  add_zero_left b = omega arith

  suc-left : (a b : ℕ) → suc a + b ≡ suc (a + b)
  suc-left a b = omega arith

  -- a followed by b steps; so a doubled list of ends is one of twice the steps
  pub further : (a b x : ℕ) → ending into b (ending into a x) ≡ ending into (a + b) x
  further zero b x = ap (ending into b) (none_yet x) ∙ ap (λ k. ending into k x) (sym (add_zero_left b))
  further (suc a) b x = elim (ℕ_discrete (into x) None) [
    | yes q ↦ ap (ending into b) (stop (suc a) x q) ∙ stop b x q ∙ sym (stop (suc a + b) x q)
    | no q ↦ ap (ending into b) (go_on a x q) ∙ further a b (into x) ∙ sym (ap (λ k. ending into k x) (suc-left a b) ∙ go_on (a + b) x q)
  ]

  -- once they have ended, merges go no further
  pub settled : (k j x : ℕ) → into (ending into k x) ≡ None → ending into (k + j) x ≡ ending into k x
  settled k j x h = sym (further k j x) ∙ stop j (ending into k x) h

  -- no ring: every chunk's merges end within n steps, of the chunks below n
  module _ (n : ℕ) (range : (x : ℕ) → (into x ≡ None → ⊥) → (x < n) × (into x < n)) (none : (x : ℕ) → Walk (merged_into into) x x → ⊥) where
    -- c tells what was passed on the way to x
    abbrev Passed : (ℕ → ℕ) → ℕ → Type 0
    Passed c x = (y : ℕ) → (c y ≡ 0 → ⊥) → Walk (merged_into into) y x

    carried : (c : ℕ → ℕ) (x : ℕ) → Passed c x → (into x ≡ None → ⊥) → Passed (put c x 1) (into x)
    carried c x passed q y h = elim (ℕ_discrete y x) [
      | yes p ↦ subst (λ z. Walk (merged_into into) z (into x)) (sym p) (one (step_give x q))
      | no p ↦ join (passed y (λ e. h (put_other c x 1 y p ∙ e))) (one (step_give x q))
    ]

    unmet : (c : ℕ → ℕ) (x : ℕ) → Passed c x → c x ≡ 0
    unmet c x passed = elim (ℕ_discrete (c x) 0) [ yes p ↦ p | no p ↦ absurd (none x (passed x p)) ]

    ended_from : (k x : ℕ) (c : ℕ → ℕ) → Passed c x → whites n c ≤ k → into (ending into k x) ≡ None
    ended_from zero x c passed w = elim (ℕ_discrete (into x) None) [
      | yes q ↦ ap into (stop zero x q) ∙ q
      | no q ↦ absurd (omega (arith, fewer-whites n x c (range x q).0 (unmet c x passed)))
    ]
    ended_from (suc k) x c passed w = elim (ℕ_discrete (into x) None) [
      | yes q ↦ ap into (stop (suc k) x q) ∙ q
      | no q ↦ ap into (go_on k x q) ∙ ended_from k (into x) (put c x 1) (carried c x passed q) (omega (arith, fewer-whites n x c (range x q).0 (unmet c x passed)))
    ]

    -- the chunk at the end of its merges isn't merged
    pub ended : (x : ℕ) → into (ending into n x) ≡ None
    unfolding whites
    ended x = ended_from n x (λ y. 0) (λ y h. absurd (h refl)) (total_le (λ y. 1) n (λ i. omega arith))

-- a further merge, of s into t, neither merged yet
module _ (into : ℕ → ℕ) (s t : ℕ) (apart : s ≡ t → ⊥) (s-free : into s ≡ None) (t-free : into t ≡ None) where
  abbrev onward : ℕ → ℕ
  onward = put into s t

  t_stops : onward t ≡ None
  t_stops = put_other into s t t (λ e. apart (sym e)) ∙ t-free

  -- no ring comes of it
  pub no_ring : ((x : ℕ) → Walk (merged_into into) x x → ⊥) → (x : ℕ) → Walk (merged_into onward) x x → ⊥
  no_ring none x w = ⊎_elim (none x) (λ p. stuck p.1) (walks.closed t keep x w)
    where
      stuck : {y : ℕ} → Walk (merged_into onward) t y → ⊥
      stuck (one h) = (step-take onward _ _ h).0 t_stops
      stuck (more h w) = (step-take onward _ _ h).0 t_stops

      keep : (x y : ℕ) → (x ≡ t → ⊥) → (y ≡ t → ⊥) → merged_into onward x y ≡ true → merged_into into x y ≡ true
      keep x y a b h = elim (ℕ_discrete x s) [
        | yes q ↦ absurd (b (sym (step-take onward x y h).1 ∙ ap onward q ∙ put_same into s t))
        | no q ↦
            let e = put_other into s t x q in
            let r = step-take onward x y h in
            subst (λ z. merged_into into x z ≡ true) (sym e ∙ r.1) (step_give into x (λ i. r.0 (e ∙ i)))
      ]

  module _ (real : None ≡ t → ⊥) where
    here : (k x : ℕ) → into x ≡ None → ending onward (suc k) x ≡ put (λ z. z) s t x
    here k x q = elim (ℕ_discrete x s) [
      | yes p ↦
          let at-s : onward s ≡ t = put_same into s t in
          ap (ending onward (suc k)) p ∙ go_on onward k s (λ e. real (sym e ∙ at-s)) ∙ ap (ending onward k) at-s ∙ stop onward k t t_stops
          ∙ sym (ap (put (λ z. z) s t) p ∙ put_same (λ z. z) s t)
      | no p ↦ stop onward (suc k) x (put_other into s t x p ∙ q) ∙ sym (put_other (λ z. z) s t x p)
    ]

    unend : (x : ℕ) → into (ending into zero x) ≡ None → into x ≡ None
    unfolding ending
    unend x h = h

    -- where merges ended at s they now end at t, one step later
    pub trail : (k x : ℕ) → into (ending into k x) ≡ None → ending onward (suc k) x ≡ put (λ z. z) s t (ending into k x)
    trail zero x h = let q = unend x h in here zero x q ∙ sym (ap (put (λ z. z) s t) (stop into zero x q))
    trail (suc k) x h = elim (ℕ_discrete (into x) None) [
      | yes q ↦ here (suc k) x q ∙ sym (ap (put (λ z. z) s t) (stop into (suc k) x q))
      | no q ↦
          let e : onward x ≡ into x = put_other into s t x (λ p. q (ap into p ∙ s-free)) in
          let f : ending into (suc k) x ≡ ending into k (into x) = go_on into k x q in
          go_on onward (suc k) x (λ i. q (sym e ∙ i)) ∙ ap (ending onward (suc k)) e ∙ trail k (into x) (ap into (sym f) ∙ h) ∙ sym (ap (put (λ z. z) s t) f)
    ]

    -- so, of n chunks, where the merges of n steps have ended before and after
    pub ends-after : (n x : ℕ) → into (ending into n x) ≡ None → onward (ending onward n x) ≡ None → ending onward n x ≡ put (λ z. z) s t (ending into n x)
    ends-after n x a b = sym (settled onward n 1 x b) ∙ ap (λ k. ending onward k x) (one_more n) ∙ trail n x a
      where
        one_more : (n : ℕ) → n + 1 ≡ suc n
        one_more n = omega arith

-- on a ring no step ends
module _ (into : ℕ → ℕ) where
  first : {x y : ℕ} → Walk (merged_into into) x y → into x ≡ None → ⊥
  first (one h) = (step-take into _ _ h).0
  first (more h w) = (step-take into _ _ h).0

  -- a closed walk, from the next chunk on
  turned : {x y : ℕ} → x ≡ y → Walk (merged_into into) x y → Walk (merged_into into) (into x) (into x)
  turned e (one {x} {y} h) = let q : into x ≡ x = (step-take into x y h).1 ∙ sym e in subst (λ z. Walk (merged_into into) z z) (sym q) (one (subst (λ z. merged_into into x z ≡ true) (sym e) h))
  turned e (more {x} {y = z} {z = y} h w) =
      let q : into x ≡ z = (step-take into x z h).1 in
      subst (λ v. Walk (merged_into into) v v) (sym q) (join (subst (λ v. Walk (merged_into into) z v) (sym e) w) (one h))

  pub ring_goes_on : (k x : ℕ) → Walk (merged_into into) x x → into (ending into k x) ≡ None → ⊥
  ring_goes_on zero x w h = first w (ap into (sym (none_yet into x)) ∙ h)
  ring_goes_on (suc k) x w h = ring_goes_on k (into x) (turned refl w) (ap into (sym (go_on into k x (first w))) ∙ h)

-- The merges of the first `made` chunks: all in range, no ring, and none in the old mode.
pub record Merges (mode : Bool) (into : ℕ → ℕ) (made : ℕ) : Type 0 where
  pub range : (x : ℕ) → (into x ≡ None → ⊥) → (x < made) × (into x < made)
  pub no_ring : (x : ℕ) → Walk (merged_into into) x x → ⊥
  pub off : mode ≡ false → (x : ℕ) → into x ≡ None

module _ {into : ℕ → ℕ} {made : ℕ} where
  pub merges_grown : {mode : Bool} → Merges mode into made → Merges mode into (made + 1)
  merges_grown v = record { range = λ x h. (omega (arith, (v.range x h).0), omega (arith, (v.range x h).1)); no_ring = v.no_ring; off = v.off }

  pub merges-more : (mode : Bool) (s t : ℕ) → Merges mode into made → (s ≡ t → ⊥) → s < made → t < made → into s ≡ None → into t ≡ None
      → Merges mode (cond mode (put into s t) into) made
  merges-more false s t v apart a b p q = v
  merges-more true s t v apart a b p q =
      record {
        range = λ x h. elim (ℕ_discrete x s) [
          | yes e ↦ (omega arith, rw (ap (put into s t) e ∙ put_same into s t) b)
          | no e ↦ let f = put_other into s t x e in rw f (v.range x (λ i. h (f ∙ i)))
        ];
        no_ring = no_ring into s t apart p q v.no_ring;
        off = λ h. absurd (true≢false h);
      }
