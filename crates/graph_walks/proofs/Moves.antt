-- The moves of a walk keep `Spread`. Assumes nothing.
use Prim.Native.Nat.{ℕ, ◌+◌, ◌-◌, ◌<◌, ◌≤◌}
use native.Mathlib.Omega.{arith}
use native.Mathlib.Decide.{ℕ_discrete}
use mathlib.Core.Path.{◌≡◌, sym, ap, ◌∙◌}
use mathlib.Core.Logic.{◌⊎◌, inl, inr, ⊎_elim}
use mathlib.Core.Bool.{Bool, true, false, true≢false}
use Rattle.graph_walks.specs.Spread.{Offers, Spread}

module _ {n : ℕ} {d : ℕ → ℕ} {f : ℕ → ℕ → ℕ} {h : ℕ → ℕ → Bool} {o r : ℕ → Bool} {c s : ℕ → ℕ} {sp t j : ℕ} (v : Spread n d f h o r c s sp t j) where
  -- t's j-th place does not hold, or its neighbour there is marked already
  pub pass : (h t j ≡ true → c (f t j) ≡ 1) → Spread n d f h o r c s sp t (j + 1)
  pass m = record {
    node = v.node;
    met = v.met;
    live = v.live;
    old = v.old;
    from = v.from;
    part = λ i b l q. elim (ℕ_discrete i j) [ yes z ↦ rw z (m (rw z at q)) | no z ↦ v.part i (omega arith) l q ];
    shut = λ x b w u. ⊎_elim (λ k. inl k)
        (λ k. inr (λ i l q a. elim (ℕ_discrete i j) [
          | yes z ↦ elim (ℕ_discrete x t) [ yes y ↦ rw (y, z) (m (rw (y, z) at q)) | no y ↦ k i l q (λ g. absurd (y g)) ]
          | no z ↦ k i l q (λ g. let y = a g in omega arith)
        ]))
        (v.shut x b w u);
  }

  -- all of t's places are looked at
  pub done : d t ≤ j → Spread n d f h o r c s sp n 0
  done m = record {
    node = v.node;
    met = v.met;
    live = v.live;
    old = v.old;
    from = v.from;
    part = λ i b. absurd (omega arith);
    shut = λ x b w u. ⊎_elim (λ k. inl k) (λ k. inr (λ i l q a. k i l q (λ g. omega (arith, ap d g)))) (v.shut x b w u);
  }

  -- a node y is marked and goes on the stack
  module _ (g : (x i : ℕ) → x < n → i < d x → h x i ≡ true → f x i < n) (c' s' : ℕ → ℕ) (y : ℕ) (yn : y < n) (may : r y ≡ true)
      (cy : c' y ≡ 1) (co : (x : ℕ) → x < n → (x ≡ y → ⊥) → c' x ≡ c x) (sy : s' sp ≡ y) (so : (p : ℕ) → (p ≡ sp → ⊥) → s' p ≡ s p)
      (looked : (i : ℕ) → i < j → i < d t → h t i ≡ true → f t i < n) where
    keeps : (x : ℕ) → x < n → c x ≡ 1 → c' x ≡ 1
    keeps x b w = elim (ℕ_discrete x y) [ yes q ↦ rw q cy | no q ↦ co x b q ∙ w ]

    same_s : (p : ℕ) → p < sp → s' p ≡ s p
    same_s p b = so p (omega arith)

    seed_shut : (x : ℕ) → x < n → c' x ≡ 1 → o x ≡ false
        → ((p : ℕ) × (p < sp + 1) × (s' p ≡ x)) ⊎ ((i : ℕ) → i < d x → h x i ≡ true → (x ≡ t → i < j) → c' (f x i) ≡ 1)
    seed_shut x b w u = elim (ℕ_discrete x y) [
      | yes q ↦ inl (sp, omega arith, sy ∙ sym q)
      | no q ↦ ⊎_elim (λ k. inl (k.0, omega arith, same_s k.0 k.1 ∙ k.2))
          (λ k. inr (λ i l m a. keeps (f x i) (g x i b l m) (k i l m a)))
          (v.shut x b (sym (co x b q) ∙ w) u)
    ]

    pub seed : Spread n d f h o r c' s' (sp + 1) t j
    seed = record {
      node = λ p b. elim (ℕ_discrete p sp) [ yes q ↦ rw (q, sy) yn | no q ↦ rw (same_s p (omega arith)) (v.node p (omega arith)) ];
      met = λ p b. elim (ℕ_discrete p sp) [ yes q ↦ rw (q, sy) cy | no q ↦ rw (same_s p (omega arith)) (keeps (s p) (v.node p (omega arith)) (v.met p (omega arith))) ];
      live = λ p b. elim (ℕ_discrete p sp) [ yes q ↦ rw (q, sy) may | no q ↦ rw (same_s p (omega arith)) (v.live p (omega arith)) ];
      old = λ x b w. keeps x b (v.old x b w);
      from = λ x b w u. elim (ℕ_discrete x y) [ yes q ↦ rw q may | no q ↦ v.from x b (sym (co x b q) ∙ w) u ];
      part = λ i b l q. keeps (f t i) (looked i b l q) (v.part i b l q);
      shut = seed_shut;
    }

module _ {n : ℕ} {d : ℕ → ℕ} {f : ℕ → ℕ → ℕ} {h : ℕ → ℕ → Bool} {o r : ℕ → Bool} {c s : ℕ → ℕ} {sp : ℕ} (v : Spread n d f h o r c s sp n 0) where
  -- a node is begun that is not on the stack
  pub begin : (t : ℕ) → Spread n d f h o r c s sp t 0
  begin t = record {
    node = v.node;
    met = v.met;
    live = v.live;
    old = v.old;
    from = v.from;
    part = λ i b. absurd (omega arith);
    shut = λ x b w u. ⊎_elim (λ k. inl k) (λ k. inr (λ i l q a. k i l q (λ g. omega arith))) (v.shut x b w u);
  }

  -- the node on top of the stack is taken
  pub take : 0 < sp → Spread n d f h o r c s (sp - 1) (s (sp - 1)) 0
  take some = record {
    node = λ p b. v.node p (omega arith);
    met = λ p b. v.met p (omega arith);
    live = λ p b. v.live p (omega arith);
    old = v.old;
    from = v.from;
    part = λ i b. absurd (omega arith);
    shut = λ x b w u. ⊎_elim
        (λ (k : (p : ℕ) × (p < sp) × (s p ≡ x)). elim (ℕ_discrete k.0 (sp - 1)) [
          | yes q ↦ inr (λ i l m a. absurd (let y = a (sym k.2 ∙ ap s q) in omega arith))
          | no q ↦ inl (k.0, omega arith, k.2)
        ])
        (λ k. inr (λ i l m a. k i l m (λ g. omega arith)))
        (v.shut x b w u);
  }

-- at first the nodes that were marked before are
pub first : {n : ℕ} {d : ℕ → ℕ} {f : ℕ → ℕ → ℕ} {h : ℕ → ℕ → Bool} {o r : ℕ → Bool} {c s : ℕ → ℕ} → ((x : ℕ) → x < n → o x ≡ true → c x ≡ 1) → ((x : ℕ) → x < n → c x ≡ 1 → o x ≡ true)
    → Spread n d f h o r c s 0 n 0
first {o} to of = record {
  node = λ p b. absurd (omega arith);
  met = λ p b. absurd (omega arith);
  live = λ p b. absurd (omega arith);
  old = to;
  from = λ x b w u. absurd (true≢false (sym (of x b w) ∙ u));
  part = λ i b. absurd (omega arith);
  shut = λ x b w u. absurd (true≢false (sym (of x b w) ∙ u));
}

-- at the end the neighbours of each node that the walk marked are marked
module _ {e : ℕ → ℕ → Bool} {n : ℕ} {d : ℕ → ℕ} {f : ℕ → ℕ → ℕ} {h : ℕ → ℕ → Bool} {o r : ℕ → Bool} {c s : ℕ → ℕ} (G : Offers e n d f h) (v : Spread n d f h o r c s 0 n 0) where
  pub step-out : (x y : ℕ) → x < n → c x ≡ 1 → o x ≡ false → e x y ≡ true → c y ≡ 1
  step-out x y b w u k = ⊎_elim (λ m. absurd (omega arith))
      (λ m. let q = G.find x y k in rw q.3 at (m q.0 q.1 q.2 (λ i. omega arith)))
      (v.shut x b w u)
