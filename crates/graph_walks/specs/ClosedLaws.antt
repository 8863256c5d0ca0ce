-- Laws of `flag_edge` and `closed`. Assumes nothing.
use Rattle.std.specs.Prelude.{ℕ, ◌+◌, ◌*◌, ◌<◌, ◌≡◌, refl, ◌⊎◌, Bool, true, not, ◌&&◌, ◌||◌, List, eqb, ltb, get_or}
use Rattle.std.proofs.Math.Logic.{⊎_elim}
use borrow.Author.Tests.{eqb-true, eq-eqb, ltb-true, lt-ltb}
use Rattle.graphs.specs.Bools.{or_cases, or_left, or_right, and_left, and_right, and_both}
use Rattle.graphs.specs.Lists.{below, some_give, some_take}
use Rattle.graphs.specs.Walk.{Walk, one, more, via}
use Rattle.graphs.specs.Walks.{Sources, sources-below, join, sound, complete}
use Rattle.graph_walks.specs.Closed.{flag_edge, closed}

module _ (l : List ℕ) (c n x y : ℕ) where
  pub flag_from : flag_edge l c n x y ≡ true → x < n
  unfolding flag_edge
  flag_from h = ltb-true x n (and_left (ltb x n) _ h)

  pub flag-to : flag_edge l c n x y ≡ true → y < n
  unfolding flag_edge
  flag-to h = ltb-true y n (and_left (ltb y n) _ (and_right (ltb x n) _ h))

  pub flag_is : x < n → y < n → flag_edge l c n x y ≡ not (eqb (get_or l (x * c + y) 0) 0)
  unfolding flag_edge
  flag_is a b = rw (lt-ltb x n a, lt-ltb y n b)

module _ (d : ℕ → ℕ → Bool) (n s t : ℕ) where
  -- a dependency of s or t
  pub closed-first : (x : ℕ) → x < n → (d s x ≡ true) ⊎ (d t x ≡ true) → closed d n s t x ≡ true
  unfolding closed
  closed-first x b h =
      some_give (λ y. (d s y || d t y) && (eqb y x || via d (below n) y x)) n x b
      (and_both _ _ (⊎_elim (λ a. or_left _ _ a) (λ a. or_right (d s x) _ a) h) (or_left _ _ (eq-eqb x x refl)))

  -- a dependency of one that is in it
  pub closed-next : Sources d n → (x y : ℕ) → closed d n s t x ≡ true → d x y ≡ true → closed d n s t y ≡ true
  unfolding closed
  closed-next from x y h e =
      let r = some_take (λ z. (d s z || d t z) && (eqb z x || via d (below n) z x)) n h in
      let z = r.0 in
      let far : Walk d z y = ⊎_elim (λ q. one (rw (← eqb-true z x q) at e)) (λ q. join (sound d (below n) z x q) (one e)) (or_cases (eqb z x) _ (and_right (d s z || d t z) _ r.2)) in
      some_give (λ z. (d s z || d t z) && (eqb z y || via d (below n) z y)) n z r.1
      (and_both _ _ (and_left (d s z || d t z) _ r.2) (or_right (eqb z y) _ (complete d (below n) (sources-below from) z y far)))

  -- what holds of the dependencies of s and t, and is handed on by a dependency, holds of the closed union
  pub closed_all : (P : ℕ → Type 0) → ((x : ℕ) → (d s x ≡ true) ⊎ (d t x ≡ true) → P x) → ((x y : ℕ) → P x → d x y ≡ true → P y) → (x : ℕ) → closed d n s t x ≡ true → P x
  unfolding closed
  closed_all P base step x h =
      let r = some_take (λ z. (d s z || d t z) && (eqb z x || via d (below n) z x)) n h in
      let z = r.0 in
      let b : P z = base z (or_cases (d s z) _ (and_left (d s z || d t z) _ r.2)) in
      ⊎_elim (λ q. rw (← eqb-true z x q) b) (λ q. along b (sound d (below n) z x q)) (or_cases (eqb z x) _ (and_right (d s z || d t z) _ r.2))
    where
      along : {a b : ℕ} → P a → Walk d a b → P b
      along p (one h) = step _ _ p h
      along p (more h w) = along (step _ _ p h) w
