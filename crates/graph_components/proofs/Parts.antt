-- The components come out right: what one label more does to `Parted`. Assumes nothing.
use Prim.Native.Nat.{ℕ, ◌+◌, ◌<◌, ◌≤◌}
use native.Mathlib.Omega.{arith}
use native.Mathlib.Decide.{ℕ_discrete, dec_le}
use mathlib.Core.Path.{◌≡◌, refl, sym, ap, ◌∙◌}
use mathlib.Core.Logic.{◌⊎◌, inl, inr, ⊎_elim}
use mathlib.Core.Bool.{Bool, true}
use Rattle.graphs.specs.Walk.{Walk, one, more}
use Rattle.graphs.specs.Walks.{join, walk_to}
use Rattle.graph_depth_first.specs.Order.{Reach, WalkIn, here, step, Ordered}
use Rattle.graph_components.specs.Components.{Gathered, Parted}

-- walks
pub in_map : {e : ℕ → ℕ → Bool} {P Q : ℕ → Type 0} → ((v : ℕ) → P v → Q v) → {x y : ℕ} → WalkIn e P x y → WalkIn e Q x y
in_map f (here {x} p) = here (f x p)
in_map f (step {x} p h w) = step (f x p) h (in_map f w)

reach_trans : {e : ℕ → ℕ → Bool} {x y z : ℕ} → Reach e x y → Reach e y z → Reach e x z
reach_trans (inl p) q = rw p q
reach_trans (inr p) (inl q) = inr (rw q at p)
reach_trans (inr p) (inr q) = inr (join p q)

in_reach : {e : ℕ → ℕ → Bool} {P : ℕ → Type 0} {x y : ℕ} → WalkIn e P x y → Reach e x y
in_reach (here p) = inl refl
in_reach (step p h w) = reach_trans (inr (one h)) (in_reach w)

reach_in : {e : ℕ → ℕ → Bool} {P : ℕ → Type 0} {y z : ℕ} → ((v : ℕ) → Reach e z v → Reach e v z → P v) → Reach e z y → Walk e y z → WalkIn e P y z
reach_in {y} {z} f q (one h) = step (f y q (inr (one h))) h (here (f z (inl refl) (inl refl)))
reach_in {y} f q (more h p) = step (f y q (inr (more h p))) h (reach_in f (reach_trans q (inr (one h))) p)

-- a component more
module _ {e : ℕ → ℕ → Bool} {n : ℕ} {o c : ℕ → ℕ} (k : ℕ) (v : Parted e n o c (k + 1)) where
  abbrev ord : Ordered e n o
  ord = v.order

  abbrev r : ℕ
  r = o k

  in_n : k < n
  in_n = omega (arith, v.most)

  pub r-n : r < n
  r-n = (ord.node k in_n).0

  r-place : ord.place r ≡ k
  r-place = (ord.node k in_n).1

  last : (x : ℕ) → x < n → ord.place x ≡ k → x ≡ r
  last x b q = sym (ord.holds x b) ∙ ap o q

  -- r has a label already
  pub part_skip : (c r ≡ 0 → ⊥) → Parted e n o c k
  part_skip h =
      record {
        order = ord;
        most = omega (arith, v.most);
        top = v.top;
        done = λ x b i z. elim (ℕ_discrete (ord.place x) k) [ yes q ↦ h (ap c (sym (last x b q)) ∙ z) | no q ↦ v.done x b (omega arith) z ];
        fresh = λ x b h'. omega (arith, v.fresh x b h');
        whole = v.whole;
        right = v.right;
      }

  module _ (new : c r ≡ 0) (c' : ℕ → ℕ) (g : Gathered e n r (k + 1) c c') where
    no_label : (x : ℕ) → x < n → c x ≡ 0 → ord.place x ≤ ord.place r
    no_label x b z = elim (dec_le (k + 1) (ord.place x)) [ yes i ↦ absurd (v.done x b i z) | no i ↦ omega (arith, r-place) ]

    -- what reaches r by nodes with no label is in r's component
    reached : (x : ℕ) → WalkIn e (λ y. (y < n) × (c y ≡ 0)) x r → Reach e r x
    reached x w = ord.back r x r-n (in_map (λ y i. (i.0, no_label y i.0 i.1)) w)

    -- and all of that component does
    unlabelled : (x : ℕ) → x < n → Reach e r x → Reach e x r → c x ≡ 0
    unlabelled x b p q = elim (ℕ_discrete (c x) 0) [ yes z ↦ z | no z ↦ absurd (z (sym (v.whole x r b r-n z q p) ∙ new)) ]

    bounded : (x : ℕ) → Reach e r x → ((x y : ℕ) → e x y ≡ true → y < n) → x < n
    bounded x (inl q) f = rw (← q) r-n
    bounded x (inr p) f = walk_to f p

    module _ (ends : (x y : ℕ) → e x y ≡ true → y < n) where
      whole_in : (x : ℕ) → x < n → Reach e r x → Reach e x r → c' x ≡ k + 1
      whole_in x b p (inl q) = g.all x b (rw q (here (r-n, new)))
      whole_in x b p (inr q) = g.all x b (reach_in (λ y i d. let m = bounded y i ends in (m, unlabelled y m i d)) p q)

      -- of two labelled nodes: x is old, or it is in r's component
      kind : (x : ℕ) → x < n → (c' x ≡ 0 → ⊥) → ((c x ≡ 0 → ⊥) × (c' x ≡ c x)) ⊎ ((c' x ≡ k + 1) × (Reach e r x × Reach e x r))
      kind x b h = elim (ℕ_discrete (c x) 0) [
        | yes z ↦ let i = g.into x b z h in inr (i.0, (reached x i.1, in_reach i.1))
        | no z ↦ inl (z, g.old x b z)
      ]

      part_right : (x y : ℕ) → x < n → y < n → (c' x ≡ 0 → ⊥) → c' x ≡ c' y → Reach e x y
      part_right x y b d h q = go (kind x b h) (kind y d (λ z. h (q ∙ z)))
        where
          go : ((c x ≡ 0 → ⊥) × (c' x ≡ c x)) ⊎ ((c' x ≡ k + 1) × (Reach e r x × Reach e x r)) → ((c y ≡ 0 → ⊥) × (c' y ≡ c y)) ⊎ ((c' y ≡ k + 1) × (Reach e r y × Reach e y r)) → Reach e x y
          go (inl i) (inl j) = v.right x y b d i.0 (sym i.1 ∙ q ∙ j.1)
          go (inl i) (inr j) = absurd (omega (arith, v.fresh x b i.0))
          go (inr i) (inl j) = absurd (omega (arith, v.fresh y d j.0))
          go (inr i) (inr j) = reach_trans i.1.1 j.1.0

      part-whole : (x y : ℕ) → x < n → y < n → (c' x ≡ 0 → ⊥) → Reach e x y → Reach e y x → c' y ≡ c' x
      part-whole x y b d h p q =
          ⊎_elim
          (λ i. let z = v.whole x y b d i.0 p q in g.old y d (λ m. i.0 (sym z ∙ m)) ∙ z ∙ sym i.1)
          (λ i. whole_in y d (reach_trans i.1.0 p) (reach_trans q i.1.1) ∙ sym i.0)
          (kind x b h)

      pub part-new : Parted e n o c' k
      part-new =
          record {
            order = ord;
            most = omega (arith, v.most);
            top = λ x b. elim (ℕ_discrete (c' x) 0) [ yes z ↦ omega arith | no z ↦ ⊎_elim (λ i. omega (arith, v.top x b, i.1)) (λ i. omega (arith, i.0, v.most)) (kind x b z) ];
            done = λ x b i z. elim (ℕ_discrete (ord.place x) k) [
              | yes q ↦ omega (arith, whole_in r r-n (inl refl) (inl refl), ap c' (last x b q))
              | no q ↦ let m = v.done x b (omega arith) in m (sym (g.old x b m) ∙ z)
            ];
            fresh = λ x b h. ⊎_elim (λ i. omega (arith, v.fresh x b i.0)) (λ i. omega arith) (kind x b h);
            whole = part-whole;
            right = part_right;
          }

-- at first no node has a label
pub parted_first : (e : ℕ → ℕ → Bool) (n : ℕ) (o c : ℕ → ℕ) → Ordered e n o → ((x : ℕ) → x < n → c x ≡ 0) → Parted e n o c n
parted_first e n o c v z =
    record {
      order = v;
      most = omega arith;
      top = λ x b. omega (arith, z x b);
      done = λ x b i h. omega (arith, v.inside x b);
      fresh = λ x b h. absurd (h (z x b));
      whole = λ x y b d h. absurd (h (z x b));
      right = λ x y b d h. absurd (h (z x b));
    }
