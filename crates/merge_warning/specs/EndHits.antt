-- The warning over marks where chunks stand for the end of their merges. Assumes nothing.
use Rattle.std.specs.Prelude.{ℕ, ◌+◌, ◌*◌, ◌<◌, ◌≤◌, ◌≡◌, refl, Bool, false, ◌&&◌, List, get_or, length}
use Rattle.std.proofs.Common.{arith, sym, ap, subst, ◌∙◌}
use Rattle.std.proofs.Math.Path.{fun_ext}
use Rattle.std.proofs.Math.Bool.{true, not, and-false}
use Rattle.std.proofs.Math.Dec.{eqb}
use borrow.Author.Tests.{eqb-true, eqb-false, eq-eqb, ne_eqb, not-true}
use Rattle.graphs.specs.Bools.{alike, fails, and_left, and_right, and_both}
use Rattle.graphs.specs.Lists.{below, some_below, some_give, some_take}
use Rattle.graphs.specs.Walk.{via}
use Rattle.graph_walks.specs.Closed.{flag_edge, closed}
use Rattle.graph_walks.specs.Counted.{counted, without, counted_give, counted-take}
use Rattle.graph_walks.specs.Ends.{end_at, end_edge, EndRows}
use Rattle.merge_state.specs.State.{yes}
use Rattle.merge_warning.specs.Hits.{CanAsk, closed-reach}

-- the rows and the ends can be read
pub record CanAskEnds (l : List ℕ) (c n : ℕ) (ends : List ℕ) (x y : ℕ) : Type 0 where
  pub ask : CanAsk l c n x y
  pub long : n ≤ length ends
  pub each : (x : ℕ) → x < n → get_or ends x 0 < n

pub end-rows : {l : List ℕ} {c n : ℕ} {ends : List ℕ} {x y : ℕ} → CanAskEnds l c n ends x y → EndRows l c n ends
end-rows can = record { rows = record { cells = can.ask.cells; narrow = can.ask.narrow; few = omega (arith, can.ask.narrow, can.ask.few) }; long = can.long; each = can.each }

-- row i is one of a marked chunk other than s, and names a chunk that stands for s
unfoldable pub names : List ℕ → ℕ → ℕ → List ℕ → ℕ → ℕ → ℕ → Bool
names l c n ends s i j = yes (get_or l (i * c + j) 0) && eqb (end_at ends j) s

pub names_at : (l : List ℕ) (c n : ℕ) (ends : List ℕ) (s i j : ℕ) → (yes (get_or l (i * c + j) 0) && eqb (end_at ends j) s) ≡ names l c n ends s i j
unfolding names
names_at l c n ends s i j = refl

unfoldable pub end_hit : List ℕ → ℕ → ℕ → List ℕ → ℕ → List ℕ → ℕ → Bool
end_hit l c n ends s marks i = (yes (get_or marks (end_at ends i) 0) && not (eqb (end_at ends i) s)) && some_below (names l c n ends s i) n

module _ (l : List ℕ) (c n : ℕ) (ends : List ℕ) (s t : ℕ) (marks : List ℕ) (each : (x : ℕ) → x < n → get_or ends x 0 < n) where
  abbrev d : ℕ → ℕ → Bool
  d = flag_edge l c n

  there : some_below (end_hit l c n ends s marks) n ≡ true → some_below (λ x. yes (get_or marks x 0) && end_edge l c n ends s t x s) n ≡ true
  unfolding end_hit names without
  there h =
      let r = some_take (end_hit l c n ends s marks) n h in
      let i = r.0 in
      let x = end_at ends i in
      let p = and_left (yes (get_or marks x 0) && not (eqb x s)) _ r.2 in
      let ne : x ≡ s → ⊥ = eqb-false x s (not-true _ (and_right (yes (get_or marks x 0)) _ p)) in
      let q = some_take (names l c n ends s i) n (and_right (yes (get_or marks x 0) && not (eqb x s)) _ r.2) in
      let j = q.0 in
      let e : end_at ends j ≡ s = eqb-true _ _ (and_right (yes (get_or l (i * c + j) 0)) _ q.2) in
      let f : d i j ≡ true = Rattle.graph_walks.specs.ClosedLaws.flag_is l c n i j r.1 q.1 ∙ and_left (yes (get_or l (i * c + j) 0)) _ q.2 in
      let k : counted d (end_at ends) n x (end_at ends j) ≡ true = counted_give d (end_at ends) n i j r.1 q.1 f (λ g. ne (g ∙ e)) in
      some_give (λ x. yes (get_or marks x 0) && end_edge l c n ends s t x s) n x (each i r.1)
      (and_both _ _ (and_left (yes (get_or marks x 0)) _ p) (and_both _ _ (subst (λ v. counted d (end_at ends) n x v ≡ true) e k) (ap (λ b. not (b && eqb s t)) (ne_eqb x s ne))))

  back : some_below (λ x. yes (get_or marks x 0) && end_edge l c n ends s t x s) n ≡ true → some_below (end_hit l c n ends s marks) n ≡ true
  unfolding end_hit names without
  back h =
      let r = some_take (λ x. yes (get_or marks x 0) && end_edge l c n ends s t x s) n h in
      let x = r.0 in
      let k = counted-take d (end_at ends) n x s (and_left (counted d (end_at ends) n x s) _ (and_right (yes (get_or marks x 0)) _ r.2)) in
      let i = k.source in
      let j = k.target in
      some_give (end_hit l c n ends s marks) n i k.source_in
      (and_both _ _ (and_both _ _ (ap (λ v. yes (get_or marks v 0)) k.from ∙ and_left (yes (get_or marks x 0)) _ r.2) (ap not (ne_eqb _ s (λ g. k.differ (sym k.from ∙ g)))))
      (some_give (names l c n ends s i) n j k.target_in
      (and_both _ _ (sym (Rattle.graph_walks.specs.ClosedLaws.flag_is l c n i j k.source_in k.target_in) ∙ k.edge) (eq-eqb _ s k.to))))

  pub end-hits_are : some_below (end_hit l c n ends s marks) n ≡ some_below (λ x. yes (get_or marks x 0) && end_edge l c n ends s t x s) n
  end-hits_are = alike _ _ there back

-- a hit's three tests, in order
module _ (l : List ℕ) (c n : ℕ) (ends : List ℕ) (s : ℕ) (marks : List ℕ) (i : ℕ) where
  pub end-unmarked : {x : ℕ} → x ≡ end_at ends i → get_or marks x 0 ≡ 0 → false ≡ end_hit l c n ends s marks i
  unfolding end_hit
  end-unmarked e h = rw (← e, eq-eqb _ 0 h)

  pub end-itself : {x : ℕ} → x ≡ end_at ends i → x ≡ s → false ≡ end_hit l c n ends s marks i
  unfolding end_hit
  end-itself {x} e h = rw (← e, eq-eqb x s h, and-false (yes (get_or marks x 0)))

  pub end-names : {x : ℕ} {r : Bool} → x ≡ end_at ends i → (get_or marks x 0 ≡ 0 → ⊥) → (x ≡ s → ⊥) → r ≡ some_below (names l c n ends s i) n → r ≡ end_hit l c n ends s marks i
  unfolding end_hit
  end-names {x} e h k q = rw (← e, ne_eqb _ 0 h, ne_eqb x s k) q

-- no edge is on oneself: nothing is left out where source and target are one
pub nothing_left-out : (l : List ℕ) (c n : ℕ) (ends : List ℕ) (x : ℕ) → end_edge l c n ends x x ≡ counted (flag_edge l c n) (end_at ends) n
unfolding without
nothing_left-out l c n ends x = fun_ext (λ u. fun_ext (λ v. alike _ _ (λ h. and_left (counted (flag_edge l c n) (end_at ends) n u v) _ h) (λ h. and_both _ _ h (ap not (go u v h)))))
  where
    go : (u v : ℕ) → counted (flag_edge l c n) (end_at ends) n u v ≡ true → (eqb u x && eqb v x) ≡ false
    go u v h =
        fails _ (λ q. (counted-take (flag_edge l c n) (end_at ends) n u v h).differ (eqb-true u x (and_left (eqb u x) _ q) ∙ sym (eqb-true v x (and_right (eqb u x) _ q))))

-- counted edges are between the first n
module _ (l : List ℕ) (c n : ℕ) (ends : List ℕ) (each : (x : ℕ) → x < n → get_or ends x 0 < n) where
  pub counted_from : (x y : ℕ) → counted (flag_edge l c n) (end_at ends) n x y ≡ true → x < n
  counted_from x y h = let k = counted-take (flag_edge l c n) (end_at ends) n x y h in subst (λ v. v < n) k.from (each k.source k.source_in)

  pub counted-to : (x y : ℕ) → counted (flag_edge l c n) (end_at ends) n x y ≡ true → y < n
  counted-to x y h = let k = counted-take (flag_edge l c n) (end_at ends) n x y h in subst (λ v. v < n) k.to (each k.target k.target_in)

-- marks of the closed union of one end, and what the end reaches
pub reach-marks : (l : List ℕ) (c n : ℕ) (ends : List ℕ) (each : (x : ℕ) → x < n → get_or ends x 0 < n) (x y : ℕ) → closed (end_edge l c n ends x x) n x x y ≡ via (counted (flag_edge l c n) (end_at ends) n) (below n) x y
reach-marks l c n ends each x y =
    ap (λ e. closed e n x x y) (nothing_left-out l c n ends x) ∙ closed-reach (counted (flag_edge l c n) (end_at ends) n) n (counted_from l c n ends each) (counted-to l c n ends each) x y
