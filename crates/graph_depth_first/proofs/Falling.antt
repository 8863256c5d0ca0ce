-- While no gray neighbour is met, the moves keep `Falls`; a gray one closes a walk. Assumes nothing.
use Prim.Native.Nat.{ℕ, ◌+◌, ◌-◌, ◌<◌, ◌≤◌}
use native.Mathlib.Omega.{arith}
use native.Mathlib.Decide.{ℕ_discrete}
use mathlib.Core.Path.{◌≡◌, ap}
use mathlib.Core.Bool.{Bool, true}
use Rattle.graphs.specs.Walk.{Walk, one, more}
use Rattle.graph_neighbours.specs.Lists.{Listed, listed-to}
use Rattle.graph_depth_first.specs.Search.{Search, Falls}
use Rattle.graph_depth_first.proofs.Whites.{But}
use Rattle.graph_depth_first.proofs.Moves.{along}

module _ {e : ℕ → ℕ → Bool} {n : ℕ} {d : ℕ → ℕ} {f : ℕ → ℕ → ℕ} {c u s a o : ℕ → ℕ} {sp fin : ℕ} (v : Search e n d f c u s a o sp fin) (g : Listed e n d f) where
  -- at first no node is black
  pub falls_first : ((x : ℕ) → x < n → c x ≡ 0) → ((x : ℕ) → x < n → u x ≡ 0) → Falls e n f c u
  falls_first hc hu = record { passed = λ x i b h. absurd (omega (arith, hu x b)); falls = λ x y b h k. absurd (omega (arith, hc x b)) }

  -- an edge from the top of the stack to a gray node closes a walk
  pub closed : (j : ℕ) → 0 < sp → j < n → e (s (sp - 1)) j ≡ true → c j ≡ 1 → Walk e (s (sp - 1)) (s (sp - 1))
  closed j b jn h k =
      let r = v.held j jn k in
      let q : r.0 + (sp - 1 - r.0) ≡ sp - 1 = omega arith in
      let w : Walk e (s (sp - 1)) (s r.0) = rw r.2 (one h) in
      rw (ap s q) at (along v (s (sp - 1)) r.0 (sp - 1 - r.0) (omega arith) w)

  module _ (w : Falls e n f c u) where
    -- a white node turns gray
    falls_turned : (c' : ℕ → ℕ) (j : ℕ) → ((y : ℕ) → y < n → 2 ≤ c y → c' y ≡ c y) → ((y : ℕ) → y < n → 2 ≤ c' y → c' y ≡ c y) → Falls e n f c' u
    falls_turned c' j old back = record {
      passed = λ x i b h. let k = w.passed x i b h in omega (arith, old (f x i) (g.ends x i b (omega (arith, v.reach x b))) k);
      falls = λ x y b h t.
          let k = back x b h in
          let r = w.falls x y b (omega arith) t in
          let z = old y (listed-to g x y t) r.0 in
          omega arith;
    }

    pub falls_push : (c' : ℕ → ℕ) (j : ℕ) → c j ≡ 0 → c' j ≡ 1 → But n j c c' → Falls e n f c' u
    falls_push c' j new cj co = falls_turned c' j (λ y b h. co y b (λ r. omega (arith, ap c r))) (λ y b h. co y b (λ r. omega (arith, ap c' r)))

    -- the node on top of the stack turns black
    module _ (c' : ℕ → ℕ) (some : 0 < sp) (all : u (s (sp - 1)) ≡ d (s (sp - 1))) (ct : c' (s (sp - 1)) ≡ fin + 2) (co : But n (s (sp - 1)) c c') where
      old : (y : ℕ) → y < n → 2 ≤ c y → c' y ≡ c y
      old y b h = co y b (λ r. omega (arith, ap c r, v.gray (sp - 1) (omega arith)))

      pop_falls : (x y : ℕ) → x < n → 2 ≤ c' x → e x y ≡ true → (2 ≤ c' y) × (c' y < c' x)
      pop_falls x y b h t = elim (ℕ_discrete x (s (sp - 1))) [
        | yes q ↦
            let z = listed-to g x y t in
            let k = g.find x y t in
            let m : 2 ≤ c y = rw k.2 at (w.passed x k.0 b (omega (arith, ap u q, all, k.1, ap d q))) in
            omega (arith, v.below y z m, old y z m, ap c' q, ct)
        | no q ↦
            let k = co x b q in
            let r = w.falls x y b (omega arith) t in
            let z = old y (listed-to g x y t) r.0 in
            omega arith
      ]

      pub falls_pop : Falls e n f c' u
      falls_pop = record {
        passed = λ x i b h. let k = w.passed x i b h in omega (arith, old (f x i) (g.ends x i b (omega (arith, v.reach x b))) k);
        falls = pop_falls;
      }

    -- the node t passes a black neighbour by
    pub falls_next : (u' : ℕ → ℕ) (t : ℕ) → 2 ≤ c (f t (u t)) → u' t ≡ u t + 1 → But n t u u' → Falls e n f c u'
    falls_next u' t done ut uo = record {
      passed = λ x i b h. elim (ℕ_discrete x t) [
        | yes q ↦ elim (ℕ_discrete i (u t)) [
          | yes r ↦ rw (q, r) done
          | no r ↦ w.passed x i b (omega (arith, ap u q, ap u' q, ut))
        ]
        | no q ↦ w.passed x i b (omega (arith, uo x b q))
      ];
      falls = w.falls;
    }

    -- where every node is black, the order of the finishing falls along a walk
    pub falling : ((x : ℕ) → x < n → 2 ≤ c x) → {x y : ℕ} → Walk e x y → c y < c x
    falling k (one {x} {y} h) = (w.falls x y (g.from x y h) (k x (g.from x y h)) h).1
    falling k (more {x} {y} h p) = omega (arith, falling k p, (w.falls x y (g.from x y h) (k x (g.from x y h)) h).1)
