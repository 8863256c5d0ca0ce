-- What `gather` labels: a walk against the edges over nodes with no label. Assumes nothing.
use Prim.Native.Nat.{ℕ, ◌<◌, ◌≤◌}
use native.Mathlib.Omega.{arith}
use native.Mathlib.Decide.{ℕ_discrete, dec_lt}
use mathlib.Core.Path.{◌≡◌, refl, sym, ap, ◌∙◌, subst}
use mathlib.Core.Logic.{◌⊎◌, inl, inr, ⊎_elim}
use mathlib.Core.Bool.{Bool, true, false, not, ◌&&◌, ◌||◌, true≢false}
use mathlib.Core.List.{List}
use lib.Dec.{eqb}
use lib.ListN.{get_or}
use borrow.Author.Tests.{eqb-true, eqb-false, eq-eqb, ne_eqb, not-true}
use Rattle.graphs.specs.Bools.{or_cases, or_left, or_right, and_left, and_right, and_both}
use Rattle.graphs.specs.Lists.{has, below}
use Rattle.graphs.specs.Walk.{Walk, one, more, via}
use Rattle.graphs.specs.Walks.{sources-below, join, sound, complete}
use Rattle.graph_neighbours.specs.Lists.{deg, nb, edge, listed, listed-to}
use Rattle.graph_walks.specs.Spread.{met, stk, every, Spread, Ready, Kept, Looked, CanLook, CanSpread, HandsOn, Done}
use Rattle.graph_walks.proofs.Moves as moves
use Rattle.graph_walks.proofs.Layer.{met-yes, yes-met, kept_trans, ready-first, look_can, push_ready, push_kept, seed_state, at_y}
use Rattle.graph_walks.proofs.Ends.{offers_list}
use Rattle.graph_depth_first.specs.Order.{WalkIn, here, step}
use Rattle.graph_depth_first.specs.Steps.{at}
use Rattle.graph_components.specs.Components.{turn, CanGather, Gathered}

-- x has a label
abbrev labelled : List ℕ → ℕ → Bool
labelled label x = not (eqb (get_or label x 0) 0)

is_labelled : (label : List ℕ) (x : ℕ) → labelled label x ≡ true → get_or label x 0 ≡ 0 → ⊥
is_labelled label x h = eqb-false _ _ (not-true _ h)

no_label : (label : List ℕ) (x : ℕ) → get_or label x 0 ≡ 0 → labelled label x ≡ false
no_label label x h = ap not (eq-eqb _ _ h)

unlabelled : (label : List ℕ) (x : ℕ) → labelled label x ≡ false → get_or label x 0 ≡ 0
unlabelled label x h = elim (ℕ_discrete (get_or label x 0) 0) [ yes q ↦ q | no q ↦ absurd (true≢false (sym (ap not (ne_eqb _ _ q)) ∙ h)) ]

module _ {g q : List ℕ} {n : ℕ} {label stack : List ℕ} {root l : ℕ} (can : CanGather g q n label stack root l) where
  abbrev e : ℕ → ℕ → Bool
  e = edge g q n

  -- an edge to a node with no label, and what root reaches by such edges
  abbrev free_edge : ℕ → ℕ → Bool
  free_edge x y = e x y && not (labelled label y)

  abbrev goal : ℕ → Bool
  goal x = eqb x root || via free_edge (below n) root x

  abbrev Free : ℕ → Type 0
  Free x = (x < n) × (get_or label x 0 ≡ 0)

  low : (x y : ℕ) → free_edge x y ≡ true → has x (below n) ≡ true
  low = sources-below (λ x y h. (listed can.graph).from x y (and_left (e x y) _ h))

  hands : HandsOn e (labelled label) goal
  hands x y w k u = or_right (eqb y root) _ (complete free_edge (below n) low root y (far (or_cases (eqb x root) _ w)))
    where
      last : free_edge x y ≡ true
      last = and_both (e x y) _ k (ap not u)

      far : (eqb x root ≡ true) ⊎ (via free_edge (below n) root x ≡ true) → Walk free_edge root y
      far (inl a) = one (subst (λ z. free_edge z y ≡ true) (eqb-true x root a) last)
      far (inr a) = join (sound free_edge (below n) root x a) (one last)

  -- against the edges
  back : {x y : ℕ} → WalkIn (turn e) Free x root → Walk free_edge x y → WalkIn (turn e) Free y root
  back w (one {x} {y} k) = step (listed-to (listed can.graph) x y (and_left (e x y) _ k), unlabelled label y (not-true _ (and_right (e x y) _ k))) (and_left (e x y) _ k) w
  back w (more {x} {y} k p) = back (step (listed-to (listed can.graph) x y (and_left (e x y) _ k), unlabelled label y (not-true _ (and_right (e x y) _ k))) (and_left (e x y) _ k) w) p

  goal_walk : (x : ℕ) → goal x ≡ true → WalkIn (turn e) Free x root
  goal_walk x h = ⊎_elim
      (λ a. subst (λ z. WalkIn (turn e) Free z root) (sym (eqb-true x root a)) (here (can.node, can.new)))
      (λ a. back (here (can.node, can.new)) (sound free_edge (below n) root x a))
      (or_cases (eqb x root) _ h)

  ready : Ready n l label stack 0
  ready = ready-first can.cells can.room

  new : get_or label root 0 < l
  new = omega (arith, can.new, can.some)

  pub gather_can : CanLook label stack l 0 root
  gather_can = look_can ready can.node

  first : Spread n (deg g) (nb g q) every (labelled label) goal (met l label) (stk stack) 0 n 0
  first = moves.first
      (λ x b h. met-yes l label x (let k = can.fresh x b (is_labelled label x h) in omega arith))
      (λ x b h. ap not (ne_eqb _ _ (λ (z : get_or label x 0 ≡ 0). let k = yes-met l label x h in omega (arith, can.some))))

  module _ {label₁ stack₁ : List ℕ} {sp : ℕ} (w : Looked label stack l 0 root label₁ stack₁ sp) where
    pub spread_can : CanSpread g q n l label₁ stack₁ sp
    spread_can = let k = w.new new in record { graph = can.graph; ready = rw (k.0, k.1, k.2) (push_ready ready can.node new) }

    seeded : Spread n (deg g) (nb g q) every (labelled label) goal (met l label₁) (stk stack₁) sp n 0
    seeded = let k = w.new new in rw (k.0, k.1, k.2) (seed_state ready can.node new (offers_list can.graph).ends first (or_left (eqb root root) _ (eq-eqb root root refl)))

    kept : Kept n l label label₁
    kept = let k = w.new new in rw k.0 (push_kept ready can.node new)

    root_met : get_or label₁ root 0 ≡ l
    root_met = let k = w.new new in rw k.0 (at_y ready can.node new)

    module _ {label₂ stack₂ : List ℕ} (v : Done e n (deg g) (nb g q) every l label₁ stack₁ sp label₂ stack₂ 0) where
      end : Spread n (deg g) (nb g q) every (labelled label) goal (met l label₂) (stk stack₂) 0 n 0
      end = v.state (labelled label) goal hands seeded

      all-kept : Kept n l label label₂
      all-kept = kept_trans kept v.kept

      -- a node with no label that is marked now has got it
      got : (x : ℕ) → get_or label x 0 ≡ 0 → l ≤ get_or label₂ x 0 → get_or label₂ x 0 ≡ l
      got x z h = all-kept.new x (omega (arith, can.some)) h

      all : {x y : ℕ} → WalkIn (turn e) Free x y → y ≡ root → (x < n) × (get_or label x 0 ≡ 0) × (get_or label₂ x 0 ≡ l)
      all (here {x} p) k = (p.0, p.1, got x p.1 (rw k (omega (arith, root_met, v.kept.stay root (omega (arith, root_met))))))
      all (step {x} {y} p h w) k =
          let r = all w k in
          let m = moves.step-out (offers_list can.graph) end y x r.0 (met-yes l label₂ y (omega (arith, r.2))) (no_label label y r.1) h in
          (p.0, p.1, got x p.1 (yes-met l label₂ x m))

      into : (x : ℕ) → x < n → at label x ≡ 0 → (at label₂ x ≡ 0 → ⊥) → (at label₂ x ≡ l) × WalkIn (turn e) Free x root
      into x b z h = elim (dec_lt (get_or label₂ x 0) l) [
        | yes k ↦ absurd (h (all-kept.low x k ∙ z))
        | no k ↦ (got x z (omega arith), goal_walk x (end.from x b (met-yes l label₂ x (omega arith)) (no_label label x z)))
      ]

      pub gather_done : Gathered (turn e) n root l (at label) (at label₂)
      gather_done = record {
        old = λ x b h. all-kept.stay x (let k = can.fresh x b h in omega arith);
        into = into;
        all = λ x b w. (all w refl).2;
      }
