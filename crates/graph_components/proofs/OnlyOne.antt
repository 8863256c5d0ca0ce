-- What the edges within components tell of the only component. Assumes nothing.
use Prim.Native.Nat.{ℕ, ◌<◌}
use native.Mathlib.Omega.{arith}
use native.Mathlib.Decide.{dec_lt}
use mathlib.Core.Path.{◌≡◌, refl, sym, ap, ◌∙◌, subst}
use mathlib.Core.Logic.{inl, ⊎_elim}
use mathlib.Core.Bool.{Bool, true, false, cond, true≢false}
use mathlib.Core.List.{List}
use lib.Dec.{eqb, ltb}
use lib.ListN.{get_or, length}
use borrow.Author.Tests.{eqb-true, eq-eqb, ne_eqb, lt-ltb, le-ltb}
use Rattle.graphs.specs.Bools.{fails, or_cases, or_right, and_left, and_right, and_both}
use Rattle.graphs.specs.Count.{ind}
use Rattle.graphs.specs.Lists.{has, below}
use Rattle.graphs.specs.Tab.{is_tab}
use Rattle.graphs.specs.Walk.{Walk, one, more, via, only}
use Rattle.graphs.specs.Walks.{sources-below, join, sound, complete, walk_from, only_walk}
use Rattle.graph_neighbours.specs.Lists.{edge, Listed, listed, listed-to}
use Rattle.graph_depth_first.specs.Order.{Ordered}
use Rattle.graph_depth_first.specs.Steps.{at}
use Rattle.graph_components.specs.Components.{turn, twinned, Split, CanWalkBack}
use Rattle.graph_components.specs.declared.Found.{Found}
use Rattle.graph_components.specs.declared.Found.TheVariants.{Nothing, Only, Several}
use Rattle.graph_components.specs.Only.{flagged, is_only, Met, Inner, CanMeet, Flagged, CanFlagOnly}

-- the law of the flags
module _ {e : ℕ → ℕ → Bool} {n : ℕ} {d : ℕ → ℕ} {f : ℕ → ℕ → ℕ} {c : ℕ → ℕ} (G : Listed e n d f) (s : Split e n c) where
  -- an edge within a component closes a walk
  closes : (x y : ℕ) → x < n → e x y ≡ true → c x ≡ c y → Walk e x x
  unfolding twinned
  closes x y b h q = ⊎_elim (λ k. subst (λ (v : ℕ). Walk e x v) (sym (eqb-true x y k)) (one h)) (λ k. join (one h) (sound e (below n) y x (and_right (via e (below n) x y) _ k))) (or_cases (eqb x y) _ (s.parted x y b (listed-to G x y h) q))

  -- and a closed walk has such an edge first
  starts : (x z : ℕ) → x < n → Walk e x z → z ≡ x → (y : ℕ) × (e x y ≡ true) × (c x ≡ c y)
  unfolding twinned
  starts _ _ b (one {x} {y} h) q = (y, h, ap c (sym q))
  starts _ _ b (more {x} {y} h p) q =
      (y, h, s.joined x y b (listed-to G x y h) (or_right (eqb x y) _ (and_both (via e (below n) x y) _ (complete e (below n) (sources-below G.from) x y (one h)) (complete e (below n) (sources-below G.from) y x (rw q at p)))))

  -- two nodes of one label, one of which is on a closed walk, reach each other
  both : (x y : ℕ) → x < n → y < n → c x ≡ c y → Walk e x x → Walk e x y × Walk e y x
  unfolding twinned
  both x y b l q w = ⊎_elim (λ k. let z = eqb-true x y k in (subst (λ (v : ℕ). Walk e x v) z w, subst (λ (v : ℕ). Walk e v x) z w)) (λ k. (sound e (below n) x y (and_left (via e (below n) x y) _ k), sound e (below n) y x (and_right (via e (below n) x y) _ k))) (or_cases (eqb x y) _ (s.parted x y b l q))

module _ {g q : List ℕ} {n : ℕ} {w : List ℕ} (can : CanMeet g q n w) where
  abbrev e : ℕ → ℕ → Bool
  e = edge g q n

  to_inner : (x : ℕ) → x < n → Walk e x x → Inner g q n (at w) n 0 (at w x)
  to_inner x b p =
      let r = starts (listed can.graph) can.split x x b p refl in
      let i = (listed can.graph).find x r.0 r.1 in
      record { node = x; place = i.0; within = b; there = i.1; before = inl b; same = r.2 ∙ ap (at w) (sym i.2); label = refl }

  of_inner : (l : ℕ) → Inner g q n (at w) n 0 l → (u : ℕ) × (u < n) × Walk e u u × (at w u ≡ l)
  of_inner l i = (i.node, i.within, closes (listed can.graph) can.split i.node _ i.within ((listed can.graph).step i.node i.place i.within i.there) i.same, i.label)

  low : (x y : ℕ) → e x y ≡ true → has x (below n) ≡ true
  low = sources-below (listed can.graph).from

  module _ (x : ℕ) (b : x < n) where
    -- the only component has x's label
    module _ (h : only e (below n) x ≡ true) where
      self : Walk e x x
      self = ((only_walk e (below n) low x).0 h).0

      mates : (y : ℕ) → y < n → Walk e y y → at w x ≡ at w y
      unfolding twinned
      mates y l p =
          let r = ((only_walk e (below n) low x).0 h).1 y p in
          can.split.joined x y b l (or_right (eqb x y) _ (and_both (via e (below n) x y) _ (complete e (below n) low x y r.0) (complete e (below n) low y x r.1)))

    only-found : (found : Found) → Met (Inner g q n (at w) n 0) found → is_only found (at w x) ≡ only e (below n) x
    only-found Nothing v = sym (fails (only e (below n) x) (λ h. v (at w x) (to_inner x b (self h))))
    only-found Several v = sym (fails (only e (below n) x) (λ h.
        let i = of_inner v.0 v.2 in
        let j = of_inner v.1 v.3 in
        v.4 (sym i.3 ∙ sym (mates h i.0 i.1 i.2) ∙ mates h j.0 j.1 j.2 ∙ j.3)))
    only-found (Only m) v = go (only e (below n) x) refl
      where
        has_it : m ≡ at w x → only e (below n) x ≡ true
        has_it h =
            let i = of_inner m v.0 in
            let p : Walk e x x = let k = both (listed can.graph) can.split i.0 x i.1 b (i.3 ∙ h) i.2 in join k.1 k.0 in
            (only_walk e (below n) low x).1
            (p, λ y k. let l = walk_from (listed can.graph).from k in both (listed can.graph) can.split x y b l (sym h ∙ sym (v.1 (at w y) (to_inner y l k))) p)

        go : (t : Bool) → only e (below n) x ≡ t → eqb m (at w x) ≡ t
        go true k = eq-eqb m (at w x) (sym (v.1 (at w x) (to_inner x b (self k))))
        go false k = ne_eqb m (at w x) (λ z. true≢false (sym (has_it z) ∙ k))

  pub only-done : (found : Found) → Met (Inner g q n (at w) n 0) found → {flags flags' : List ℕ} → Flagged w found flags n flags' → flags' ≡ flagged e n flags
  unfolding flagged
  only-done found v {flags} {flags'} f = is_tab flags' (length flags) _ f.long (λ x b. go x (dec_lt x n))
    where
      go : (x : ℕ) → Dec (x < n) → get_or flags' x 0 ≡ cond (ltb x n) (ind (only e (below n) x)) (get_or flags x 0)
      go x (yes z) = rw (lt-ltb x n z) (f.is x z ∙ ap ind (only-found x z found v))
      go x (no z) = rw (le-ltb x n (omega arith)) (f.beyond x (omega arith))

-- from one walk to the next
module _ {g l h q : List ℕ} {n : ℕ} {order label stack flags : List ℕ} (can : CanFlagOnly g l h q n order label stack flags) where
  pub back_can : CanWalkBack h q n order label stack
  back_can = record {
    graph = can.turned;
    places = can.places;
    cells = can.cells;
    room = can.space;
    small = can.small;
    ordered = subst (λ (f : ℕ → ℕ → Bool). Ordered f n (at order)) can.same can.ordered;
  }

  pub meet_can : {label' : List ℕ} → Split (turn (edge h q n)) n (at label') → length label' ≡ length label → CanMeet g l n label'
  meet_can {label'} s a = record {
    graph = can.graph;
    split = subst (λ (f : ℕ → ℕ → Bool). Split f n (at label')) (sym can.same) s;
    long = omega (arith, can.cells);
  }
