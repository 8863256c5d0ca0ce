-- The moves of a depth-first search keep `Search`. Assumes nothing.
use Prim.Native.Nat.{ℕ, zero, suc, ◌+◌, ◌-◌, ◌<◌, ◌≤◌}
use native.Mathlib.Omega.{arith}
use native.Mathlib.Decide.{ℕ_discrete}
use native.Mathlib.Nat.{add-zero}
use mathlib.Core.Path.{◌≡◌, refl, sym, ap, ◌∙◌}
use mathlib.Core.Logic.{inl, inr}
use mathlib.Core.Bool.{Bool, true}
use Rattle.graphs.specs.Walk.{Walk, one}
use Rattle.graphs.specs.Walks.{join}
use Rattle.graph_neighbours.specs.Lists.{Listed, listed-to}
use Rattle.graph_depth_first.specs.Order.{Reach, WalkIn, here, step, Ordered}
use Rattle.graph_depth_first.specs.Search.{Search, togo, size}
use Rattle.graphs.specs.Total.{is0, whites, total_change}
use Rattle.graph_depth_first.proofs.Whites.{But, not0, whites_but, whites-all, whites-none}

pub first : (e : ℕ → ℕ → Bool) (n : ℕ) (d : ℕ → ℕ) (f : ℕ → ℕ → ℕ) (c u s a o : ℕ → ℕ) → ((x : ℕ) → x < n → c x ≡ 0) → ((x : ℕ) → x < n → u x ≡ 0) → Search e n d f c u s a o 0 0
first e n d f c u s a o hc hu =
    record {
      count = omega (arith, whites-all n c hc);
      node = λ p b. absurd (omega arith);
      gray = λ p b. absurd (omega arith);
      held = λ x b h. absurd (omega (arith, hc x b));
      path = λ p b. absurd (omega arith);
      apart = λ p q l b h. omega arith;
      rising = λ p q l b. absurd (omega arith);
      reach = λ x b. omega (arith, hu x b);
      seen = λ x i b h z. omega (arith, hu x b);
      begun = λ x b h. absurd (h (hc x b));
      below = λ x b h. absurd (omega (arith, hc x b));
      own = λ x b h. absurd (omega (arith, hc x b));
      out = λ x y b h t. absurd (omega (arith, hc x b));
      over = λ p v b l h t. absurd (omega arith);
      nest = λ r v b l h. absurd (omega (arith, hc r b));
      put = λ x b h. absurd (omega (arith, hc x b));
      got = λ k b. absurd (omega arith);
    }

module _ {e : ℕ → ℕ → Bool} {n : ℕ} {d : ℕ → ℕ} {f : ℕ → ℕ → ℕ} {c u s a o : ℕ → ℕ} {sp fin : ℕ} (v : Search e n d f c u s a o sp fin) where
  -- up the stack there is a walk
  pub along : (z p m : ℕ) → p + m < sp → Walk e z (s p) → Walk e z (s (p + m))
  along z p zero b h = rw add-zero h
  along z p (suc m) b h =
      let r = along z p m (omega arith) h in
      let q : p + suc m ≡ p + m + 1 = omega arith in
      rw q (join r (one (v.path (p + m) (omega arith))))

  up : (p q : ℕ) → p < q → q < sp → Walk e (s p) (s q)
  up p q l b =
      let z : p + 1 + (q - (p + 1)) ≡ q = omega arith in
      rw (ap s z) at (along (s p) (p + 1) (q - (p + 1)) (omega arith) (one (v.path p (omega arith))))

  module _ (G : Listed e n d f) where
    ends : (x y : ℕ) → e x y ≡ true → y < n
    ends = listed-to G

    -- a white node is discovered
    module _ (c' s' a' : ℕ → ℕ) (j : ℕ) (jn : j < n) (new : c j ≡ 0) (after : (p : ℕ) → p + 1 ≡ sp → e (s p) j ≡ true)
        (cj : c' j ≡ 1) (co : But n j c c') (sj : s' sp ≡ j) (so : But n sp s s') (aj : a' j ≡ fin) (ao : But n j a a') where
      pub push_whites : whites n c' + 1 ≡ whites n c
      push_whites = omega (arith, whites_but n c c' j jn co, ap is0 new, ap is0 cj)

      other : (p : ℕ) → p < sp → s p ≡ j → ⊥
      other p b r = omega (arith, ap c r, v.gray p b)

      met : (y : ℕ) → (c y ≡ 0 → ⊥) → y ≡ j → ⊥
      met y h r = h (ap c r ∙ new)

      old : (y : ℕ) → y < n → 2 ≤ c' y → (c' y ≡ c y) × (a' y ≡ a y)
      old y b h = let q : y ≡ j → ⊥ = λ r. omega (arith, ap c' r) in (co y b q, ao y b q)

      same_s : (p : ℕ) → p < sp → s' p ≡ s p
      same_s p b = so p (omega (arith, push_whites, v.count)) (omega arith)

      same_a : (p : ℕ) → p < sp → a' (s' p) ≡ a (s p)
      same_a p b = rw (same_s p b) (ao (s p) (v.node p b) (other p b))

      push_rising : (p q : ℕ) → p < q → q < sp + 1 → a' (s' p) ≤ a' (s' q)
      push_rising p q l b = elim (ℕ_discrete q sp) [
        | yes r ↦ omega (arith, same_a p (omega arith), ap (λ k. a' (s' k)) r, ap a' sj, aj, v.begun (s p) (v.node p (omega arith)) (λ z. omega (arith, v.gray p (omega arith))))
        | no r ↦ omega (arith, same_a p (omega arith), same_a q (omega arith), v.rising p q l (omega arith))
      ]

      push_out : (x y : ℕ) → x < n → 2 ≤ c' x → e x y ≡ true → (c' y ≡ 0 → ⊥) × (a' y + 2 ≤ c' x)
      push_out x y b h t =
          let k = old x b h in
          let r = v.out x y b (omega arith) t in
          let q = met y r.0 in
          (λ z. r.0 (sym (co y (ends x y t) q) ∙ z), omega (arith, ao y (ends x y t) q))

      push_over : (p y : ℕ) → p < sp + 1 → y < n → 2 ≤ c' y → a' (s' p) + 2 ≤ c' y → Walk e (s' p) y × (a' (s' p) ≤ a' y)
      push_over p y b l h t =
          let k = old y l h in
          elim (ℕ_discrete p sp) [
            | yes q ↦ absurd (omega (arith, ap (λ i. a' (s' i)) q, ap a' sj, aj, v.below y l (omega arith)))
            | no q ↦
                let z = same_a p (omega arith) in
                let r = v.over p y (omega arith) l (omega arith) (omega arith) in
                (rw (same_s p (omega arith)) r.0, omega arith)
          ]

      push_nest : (r y : ℕ) → r < n → y < n → 2 ≤ c' r → 2 ≤ c' y → a' r + 2 ≤ c' y → c' y ≤ c' r → Reach e r y × (a' r ≤ a' y)
      push_nest r y b l h g t i =
          let k = old r b h in
          let d = old y l g in
          let z = v.nest r y b l (omega arith) (omega arith) (omega arith) (omega arith) in
          (z.0, omega arith)

      push_got : (k : ℕ) → k < fin → (o k < n) × (c' (o k) ≡ k + 2)
      push_got k b = let r = v.got k b in (r.0, co (o k) r.0 (λ z. omega (arith, ap c z)) ∙ r.1)

      pub push : Search e n d f c' u s' a' o (sp + 1) fin
      push =
          record {
            count = omega (arith, push_whites, v.count);
            node = λ p b. elim (ℕ_discrete p sp) [ yes q ↦ rw (q, sj) jn | no q ↦ rw (same_s p (omega arith)) (v.node p (omega arith)) ];
            gray = λ p b. elim (ℕ_discrete p sp) [
              | yes q ↦ rw (q, sj) cj
              | no q ↦ rw (same_s p (omega arith)) (co (s p) (v.node p (omega arith)) (other p (omega arith)) ∙ v.gray p (omega arith))
            ];
            held = λ x b h. elim (ℕ_discrete x j) [
              | yes q ↦ (sp, omega arith, sj ∙ sym q)
              | no q ↦ let r = v.held x b (sym (co x b q) ∙ h) in (r.0, omega arith, same_s r.0 r.1 ∙ r.2)
            ];
            path = λ p b. elim (ℕ_discrete (p + 1) sp) [
              | yes q ↦ rw (q, sj, same_s p (omega arith)) (after p q)
              | no q ↦ rw (same_s p (omega arith), same_s (p + 1) (omega arith)) (v.path p (omega arith))
            ];
            apart = λ p q l b h. elim (ℕ_discrete q sp) [
              | yes r ↦ other p (omega arith) (sym (same_s p (omega arith)) ∙ h ∙ ap s' r ∙ sj)
              | no r ↦ v.apart p q l (omega arith) (sym (same_s p (omega arith)) ∙ h ∙ same_s q (omega arith))
            ];
            rising = push_rising;
            reach = v.reach;
            seen = λ x i b h z. v.seen x i b h (sym (co (f x i) (G.ends x i b (omega (arith, v.reach x b))) (λ r. omega (arith, ap c' r))) ∙ z);
            begun = λ x b h. elim (ℕ_discrete x j) [
              | yes q ↦ omega (arith, ap a' q, aj)
              | no q ↦ omega (arith, ao x b q, v.begun x b (λ z. h (co x b q ∙ z)))
            ];
            below = λ x b h. let k = old x b h in omega (arith, v.below x b (omega arith));
            own = λ x b h. let k = old x b h in omega (arith, v.own x b (omega arith));
            out = push_out;
            over = push_over;
            nest = push_nest;
            put = λ x b h. let k = old x b h in rw k.0 (v.put x b (omega arith));
            got = push_got;
          }

      pub push_size : size n d c' u (sp + 1) < size n d c u sp
      unfolding size
      push_size = omega (arith, push_whites)

    -- the node on top of the stack finishes
    module _ (c' o' : ℕ → ℕ) (some : 0 < sp) (all : u (s (sp - 1)) ≡ d (s (sp - 1))) (ct : c' (s (sp - 1)) ≡ fin + 2) (co : But n (s (sp - 1)) c c')
        (of : o' fin ≡ s (sp - 1)) (oo : But n fin o o') where
      abbrev t : ℕ
      t = s (sp - 1)

      top : c t ≡ 1
      top = v.gray (sp - 1) (omega arith)

      top_n : t < n
      top_n = v.node (sp - 1) (omega arith)

      pub pop_whites : whites n c' ≡ whites n c
      pop_whites = omega (arith, whites_but n c c' t top_n co, ap is0 top, ap is0 ct, not0 (fin + 2) (omega arith))

      still : (y : ℕ) → y < n → (c y ≡ 0 → ⊥) → c' y ≡ 0 → ⊥
      still y b h z = elim (ℕ_discrete y t) [ yes q ↦ omega (arith, ap c' q) | no q ↦ h (sym (co y b q) ∙ z) ]

      pop_held : (x : ℕ) → x < n → c' x ≡ 1 → (p : ℕ) × (p < sp - 1) × (s p ≡ x)
      pop_held x b h =
          let q : x ≡ t → ⊥ = λ r. omega (arith, ap c' r, ct) in
          let r = v.held x b (sym (co x b q) ∙ h) in
          let k : r.0 ≡ sp - 1 → ⊥ = λ z. q (sym r.2 ∙ ap s z) in
          (r.0, omega arith, r.2)

      pop_begun : (x : ℕ) → x < n → (c' x ≡ 0 → ⊥) → a x ≤ fin + 1
      pop_begun x b h = elim (ℕ_discrete x t) [
        | yes q ↦ omega (arith, v.begun x b (λ z. omega (arith, ap c q, top)))
        | no q ↦ omega (arith, v.begun x b (λ z. h (co x b q ∙ z)))
      ]

      pop_out : (x y : ℕ) → x < n → 2 ≤ c' x → e x y ≡ true → (c' y ≡ 0 → ⊥) × (a y + 2 ≤ c' x)
      pop_out x y b h g = elim (ℕ_discrete x t) [
        | yes q ↦
            let l = ends x y g in
            let w = G.find x y g in
            let m : c y ≡ 0 → ⊥ = λ z. v.seen x w.0 b (omega (arith, ap u q, all, w.1, ap d q)) (ap c w.2 ∙ z) in
            (still y l m, omega (arith, v.begun y l m, ap c' q, ct))
        | no q ↦
            let k = co x b q in
            let r = v.out x y b (omega arith) g in
            (still y (ends x y g) r.0, omega arith)
      ]

      pop_over : (p y : ℕ) → p < sp - 1 → y < n → 2 ≤ c' y → a (s p) + 2 ≤ c' y → Walk e (s p) y × (a (s p) ≤ a y)
      pop_over p y b l h g = elim (ℕ_discrete y t) [
        | yes q ↦ (rw q (up p (sp - 1) b (omega arith)), omega (arith, ap a q, v.rising p (sp - 1) b (omega arith)))
        | no q ↦ let k = co y l q in v.over p y (omega arith) l (omega arith) (omega arith)
      ]

      pop_nest : (r y : ℕ) → r < n → y < n → 2 ≤ c' r → 2 ≤ c' y → a r + 2 ≤ c' y → c' y ≤ c' r → Reach e r y × (a r ≤ a y)
      pop_nest r y b l h g i m = elim (ℕ_discrete r t) [
        | yes q ↦ elim (ℕ_discrete y t) [
          | yes z ↦ (inl (q ∙ sym z), omega (arith, ap a (q ∙ sym z)))
          | no z ↦
              let k = co y l z in
              let w = v.over (sp - 1) y (omega arith) l (omega arith) (omega (arith, ap a q)) in
              (inr (rw q w.0), omega (arith, ap a q, w.1))
        ]
        | no q ↦
            let k₂ = co r b q in
            elim (ℕ_discrete y t) [
              | yes z ↦ absurd (omega (arith, ap c' z, ct, v.below r b (omega arith)))
              | no z ↦ let k = co y l z in v.nest r y b l (omega arith) (omega arith) (omega arith) (omega arith)
            ]
      ]

      pop_put : (x : ℕ) → x < n → 2 ≤ c' x → o' (c' x - 2) ≡ x
      pop_put x b h = elim (ℕ_discrete x t) [
        | yes q ↦
            let z : c' x - 2 ≡ fin = omega (arith, ap c' q, ct) in
            ap o' z ∙ of ∙ sym q
        | no q ↦
            let k = co x b q in
            let l = v.below x b (omega arith) in
            rw k (oo (c x - 2) (omega (arith, v.count)) (omega arith) ∙ v.put x b (omega arith))
      ]

      pop_got : (k : ℕ) → k < fin + 1 → (o' k < n) × (c' (o' k) ≡ k + 2)
      pop_got k b = elim (ℕ_discrete k fin) [
        | yes q ↦ (rw (q, of) top_n, rw (q, of) ct)
        | no q ↦
            let r = v.got k (omega arith) in
            let z = oo k (omega (arith, v.count)) q in
            (rw z r.0, rw z (co (o k) r.0 (λ g. omega (arith, ap c g, top)) ∙ r.1))
      ]

      pub pop : Search e n d f c' u s a o' (sp - 1) (fin + 1)
      pop =
          record {
            count = omega (arith, pop_whites, v.count);
            node = λ p b. v.node p (omega arith);
            gray = λ p b. co (s p) (v.node p (omega arith)) (v.apart p (sp - 1) b (omega arith)) ∙ v.gray p (omega arith);
            held = pop_held;
            path = λ p b. v.path p (omega arith);
            apart = λ p q l b. v.apart p q l (omega arith);
            rising = λ p q l b. v.rising p q l (omega arith);
            reach = v.reach;
            seen = λ x i b h. still (f x i) (G.ends x i b (omega (arith, v.reach x b))) (v.seen x i b h);
            begun = pop_begun;
            below = λ x b h. elim (ℕ_discrete x t) [ yes q ↦ omega (arith, ap c' q, ct) | no q ↦ let k = co x b q in omega (arith, v.below x b (omega arith)) ];
            own = λ x b h. elim (ℕ_discrete x t) [ yes q ↦ omega (arith, ap c' q, ct, ap a q, v.begun t top_n (λ z. omega (arith, top))) | no q ↦ let k = co x b q in omega (arith, v.own x b (omega arith)) ];
            out = pop_out;
            over = pop_over;
            nest = pop_nest;
            put = pop_put;
            got = pop_got;
          }

      pub pop_size : size n d c' u (sp - 1) < size n d c u sp
      unfolding size
      pop_size = omega (arith, pop_whites)

    -- the node t passes its neighbour at the cursor by
    module _ (u' : ℕ → ℕ) (t : ℕ) (tn : t < n) (room : u t < d t) (done : c (f t (u t)) ≡ 0 → ⊥) (ut : u' t ≡ u t + 1) (uo : But n t u u') where
      next-seen : (x i : ℕ) → x < n → i < u' x → c (f x i) ≡ 0 → ⊥
      next-seen x i b h = elim (ℕ_discrete x t) [
        | yes q ↦ elim (ℕ_discrete i (u t)) [
          | yes r ↦ rw (q, r) done
          | no r ↦ v.seen x i b (omega (arith, ap u q, ap u' q, ut))
        ]
        | no q ↦ v.seen x i b (omega (arith, uo x b q))
      ]

      pub next : Search e n d f c u' s a o sp fin
      next =
          record {
            count = v.count;
            node = v.node;
            gray = v.gray;
            held = v.held;
            path = v.path;
            apart = v.apart;
            rising = v.rising;
            reach = λ x b. elim (ℕ_discrete x t) [ yes q ↦ omega (arith, ap u' q, ut, ap d q) | no q ↦ omega (arith, uo x b q, v.reach x b) ];
            seen = next-seen;
            begun = v.begun;
            below = v.below;
            own = v.own;
            out = v.out;
            over = v.over;
            nest = v.nest;
            put = v.put;
            got = v.got;
          }

      pub next-size : size n d c u' sp < size n d c u sp
      unfolding size togo
      next-size = omega (arith, ut, total_change (λ x. d x - u x) (λ x. d x - u' x) n t tn (λ x b h. ap (λ k. d x - k) (uo x b h)))

-- at the end every node is black, and the order is a post-order
module _ {e : ℕ → ℕ → Bool} {n : ℕ} {d : ℕ → ℕ} {f : ℕ → ℕ → ℕ} {c u s a o : ℕ → ℕ} {fin : ℕ} (v : Search e n d f c u s a o 0 fin)
    (all : (x : ℕ) → x < n → c x ≡ 0 → ⊥) where
  pub black : (x : ℕ) → x < n → 2 ≤ c x
  black x b = elim (ℕ_discrete (c x) 1) [
    | yes q ↦ let h = v.held x b q in absurd (omega arith)
    | no q ↦ let h = all x b in omega arith
  ]

  -- along a walk to r of nodes that finish no later than r, every node finishes after r was met
  late : (r x : ℕ) → r < n → WalkIn e (λ y. (y < n) × (c y - 2 ≤ c r - 2)) x r → (x < n) × (a r + 2 ≤ c x) × (c x ≤ c r)
  late r x rn w = go w rn refl
    where
      go : {x z : ℕ} → WalkIn e (λ y. (y < n) × (c y - 2 ≤ c r - 2)) x z → z < n → z ≡ r → (x < n) × (a r + 2 ≤ c x) × (c x ≤ c r)
      go (here {x} p) b q = let k = black r rn in (p.0, omega (arith, ap c q, v.own r rn k), omega (arith, ap c q))
      go (step {x} {y} p h w) b q =
          let k = black r rn in
          let i = black x p.0 in
          let d = go w b q in
          let j = v.nest r y rn d.0 k (black y d.0) d.1 d.2 in
          (p.0, omega (arith, (v.out x y p.0 i h).1, j.1), omega arith)

  pub all_finished : fin ≡ n
  all_finished = omega (arith, v.count, whites-none n c all)

  pub ordered : Ordered e n o
  ordered =
      record {
        place = λ x. c x - 2;
        inside = λ x b. omega (arith, v.below x b (black x b), black x b, all_finished);
        holds = λ x b. v.put x b (black x b);
        node = λ k b. let r = v.got k (omega (arith, all_finished)) in (r.0, omega arith);
        back = λ r x b w. let d = late r x b w in (v.nest r x b d.0 (black r b) (black x d.0) d.1 d.2).0;
      }
