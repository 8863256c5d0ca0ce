-- For the code: what a walk with several starts marks, from the marked and stacked seeds on. Assumes nothing.
use Rattle.std.specs.Prelude.{ℕ, ◌<◌, ◌≡◌, refl, ◌↔◌, Bool, false, ◌&&◌, ◌||◌, eqb}
use Rattle.std.proofs.Common.{arith, sym, subst, eqb-true, eq-eqb}
use Rattle.std.proofs.Math.Logic.{inl, inr, ⊎_elim}
use Rattle.std.proofs.Math.Bool.{true}
use Rattle.graphs.specs.Bools.{or_cases, or_left, or_right, and_left, and_right, and_both}
use Rattle.graphs.specs.Lists.{below, some_below, some_give, some_take}
use Rattle.graphs.specs.Walk.{Walk, one, more, via}
use Rattle.graphs.specs.Walks.{join, sound, complete, sources-below}
use Rattle.graph_walks.specs.Spread.{Offers, Spread, HandsOn}
use Rattle.move_free_walks.specs.Joins.{Upto, Fore, Aft}

-- the ends of the first steps of a walk from `out`, and the starts of the last steps of one to `into`
unfoldable pub firsts : (ℕ → ℕ → Bool) → (ℕ → Bool) → ℕ → ℕ → Bool
firsts h out n y = some_below (λ c. out c && h c y) n

unfoldable pub lasts : (ℕ → ℕ → Bool) → (ℕ → Bool) → ℕ → ℕ → Bool
lasts h into n y = some_below (λ d. into d && h y d) n

-- X is a seed, or reached from one
unfoldable pub seeded : (ℕ → ℕ → Bool) → ℕ → (ℕ → Bool) → ℕ → Bool
seeded e n seed X = some_below (λ y. seed y && (eqb y X || via e (below n) y X)) n

module _ (e : ℕ → ℕ → Bool) (n : ℕ) (from : (x y : ℕ) → e x y ≡ true → x < n) (seed : ℕ → Bool) (low : (y : ℕ) → seed y ≡ true → y < n) where
  pub seeded_is : (X : ℕ) → (seeded e n seed X ≡ true) ↔ ((y : ℕ) × (seed y ≡ true) × Upto e y X)
  unfolding seeded
  seeded_is X = (there, back)
    where
      there : some_below (λ y. seed y && (eqb y X || via e (below n) y X)) n ≡ true → (y : ℕ) × (seed y ≡ true) × Upto e y X
      there h =
          let r = some_take (λ y. seed y && (eqb y X || via e (below n) y X)) n h in
          (r.0, and_left (seed r.0) _ r.2, ⊎_elim (λ q. inl (eqb-true r.0 X q)) (λ q. inr (sound e (below n) r.0 X q)) (or_cases (eqb r.0 X) _ (and_right (seed r.0) _ r.2)))

      up : (y : ℕ) → Upto e y X → (eqb y X || via e (below n) y X) ≡ true
      up y (inl q) = or_left (eqb y X) _ (eq-eqb y X q)
      up y (inr w) = or_right (eqb y X) _ (complete e (below n) (sources-below from) y X w)

      back : (y : ℕ) × (seed y ≡ true) × Upto e y X → some_below (λ y. seed y && (eqb y X || via e (below n) y X)) n ≡ true
      back (y, s, u) = some_give (λ y. seed y && (eqb y X || via e (below n) y X)) n y (low y s) (and_both (seed y) _ s (up y u))

  step : (y x z : ℕ) → Upto e y x → e x z ≡ true → Walk e y z
  step y x z (inl q) h = one (subst (λ k. e k z ≡ true) (sym q) h)
  step y x z (inr w) h = join w (one h)

  -- what the walk may mark, it may mark the neighbours of
  pub seeded_on : HandsOn e (λ x. false) (seeded e n seed)
  seeded_on x y r h q = let w = (seeded_is x).0 r in (seeded_is y).1 (w.0, w.1, inr (step w.0 x y w.2 h))

  -- at the end, with nothing on the stack, it has marked just these
  module _ {d : ℕ → ℕ} {f : ℕ → ℕ → ℕ} {h : ℕ → ℕ → Bool} {c s : ℕ → ℕ} (offers : Offers e n d f h) (to : (x y : ℕ) → e x y ≡ true → y < n)
      (v : Spread n d f h (λ x. false) (seeded e n seed) c s 0 n 0) (start : (y : ℕ) → seed y ≡ true → c y ≡ 1) where
    on : (x y : ℕ) → c x ≡ 1 → e x y ≡ true → c y ≡ 1
    on x y m q =
        let r = offers.find x y q in
        ⊎_elim (λ k. absurd (omega (arith, k.1))) (λ k. subst (λ z. c z ≡ 1) r.3 (k r.0 r.1 r.2 (λ z. absurd (omega (arith, from x y q))))) (v.shut x (from x y q) m refl)

    along : {x y : ℕ} → c x ≡ 1 → Walk e x y → c y ≡ 1
    along m (one q) = on _ _ m q
    along m (more q w) = along (on _ _ m q) w

    pub marks-seeded : (X : ℕ) → X < n → (c X ≡ 1) ↔ ((y : ℕ) × (seed y ≡ true) × Upto e y X)
    marks-seeded X l = (λ m. (seeded_is X).0 (v.from X l m refl), back)
      where
        back : (y : ℕ) × (seed y ≡ true) × Upto e y X → c X ≡ 1
        back (y, s, inl q) = subst (λ z. c z ≡ 1) q (start y s)
        back (y, s, inr w) = along (start y s) w

-- the seeds of the two walks
pub fore_seeds : (g h : ℕ → ℕ → Bool) (out : ℕ → Bool) (n : ℕ) → ((c : ℕ) → out c ≡ true → c < n) → (X : ℕ) → Fore g h out X ↔ ((y : ℕ) × (firsts h out n y ≡ true) × Upto g y X)
unfolding firsts
fore_seeds g h out n low X = (
  λ w. (w.1, some_give (λ c. out c && h c w.1) n w.0 (low w.0 w.2) (and_both (out w.0) _ w.2 w.3), w.4),
  λ w. let r = some_take (λ c. out c && h c w.0) n w.1 in (r.0, w.0, and_left (out r.0) _ r.2, and_right (out r.0) _ r.2, w.2),
)

-- the second goes along the turned edges
pub turned : {g : ℕ → ℕ → Bool} {x y : ℕ} → Walk g x y → Walk (λ u v. g v u) y x
turned (one q) = one q
turned (more q w) = join (turned w) (one q)

turn_upto : {g : ℕ → ℕ → Bool} {x y : ℕ} → Upto g x y → Upto (λ u v. g v u) y x
turn_upto (inl q) = inl (sym q)
turn_upto (inr w) = inr (turned w)

pub aft_seeds : (g h : ℕ → ℕ → Bool) (into : ℕ → Bool) (n : ℕ) → ((c : ℕ) → into c ≡ true → c < n) → (X : ℕ) → Aft g h into X ↔ ((y : ℕ) × (lasts h into n y ≡ true) × Upto (λ u v. g v u) y X)
unfolding lasts
aft_seeds g h into n low X = (
  λ w. (w.1, some_give (λ c. into c && h w.1 c) n w.0 (low w.0 w.2) (and_both (into w.0) _ w.2 w.3), turn_upto w.4),
  λ w. let r = some_take (λ c. into c && h w.0 c) n w.1 in (r.0, w.0, and_left (into r.0) _ r.2, and_right (into r.0) _ r.2, turn_upto w.2),
)
