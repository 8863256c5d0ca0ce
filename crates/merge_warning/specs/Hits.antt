-- The warning over marks: which marked chunks depend on the source. Assumes nothing.
use Rattle.std.specs.Prelude.{ℕ, ◌+◌, ◌*◌, ◌<◌, ◌≤◌, ◌≡◌, refl, Bool, false, not, ◌&&◌, ◌||◌, List, get_or, length, eqb}
use Rattle.std.proofs.Common.{arith, sym, ◌∙◌, eqb-true, eq-eqb, ne_eqb}
use Rattle.std.proofs.Math.Path.{ap}
use Rattle.std.proofs.Math.Logic.{⊎_elim}
use Rattle.std.proofs.Math.Bool.{true, cond}
use Rattle.graphs.specs.Bools.{alike, and_left, and_right, and_both, or_cases, or_left, or_right}
use Rattle.graphs.specs.Lists.{below, some_below, some_give, some_take}
use Rattle.graphs.specs.Tab.{tab-at}
use Rattle.graphs.specs.Walk.{Walk, one, more, via}
use Rattle.graphs.specs.Walks.{sources-below, sound, complete}
use Rattle.graph_walks.specs.Closed.{flag_edge, closed}
use Rattle.graph_walks.specs.ClosedLaws.{flag_is}
use Rattle.graph_walks.specs.Marks.{marking}
use Rattle.merge_state.specs.State.{yes}
use Rattle.merge_state.specs.Methods.{warns}

-- the rows can be read, and two chunks are in range
pub record CanAsk (l : List ℕ) (c n x y : ℕ) : Type 0 where
  pub cells : n * c ≤ length l
  pub narrow : n ≤ c
  pub few : c ≤ 1024
  pub first : x < n
  pub second : y < n

-- chunk x is marked and depends on s
unfoldable pub hit_at : List ℕ → ℕ → ℕ → ℕ → List ℕ → ℕ → Bool
hit_at l c n s marks x = yes (get_or marks x 0) && flag_edge l c n x s

some_alike : (p q : ℕ → Bool) (n : ℕ) → ((x : ℕ) → x < n → p x ≡ q x) → some_below p n ≡ some_below q n
some_alike p q n f =
    alike _ _ (λ h. let r = some_take p n h in some_give q n r.0 r.1 (sym (f r.0 r.1) ∙ r.2)) (λ h. let r = some_take q n h in some_give p n r.0 r.1 (f r.0 r.1 ∙ r.2))

yes-cond : (b : Bool) → yes (cond b 1 0) ≡ b
yes-cond true = refl
yes-cond false = refl

-- the marks of a test, over marks that were 0
module _ (p : ℕ → Bool) (old marks : List ℕ) (n : ℕ) (clear : (x : ℕ) → x < n → get_or old x 0 ≡ 0) (long : n ≤ length old) (e : marks ≡ marking p 1 old) where
  pub marked-yes : (x : ℕ) → x < n → yes (get_or marks x 0) ≡ p x
  unfolding marking
  marked-yes x h = rw e (ap yes (tab-at (λ x. cond (p x) 1 (get_or old x 0)) (length old) x (omega arith) ∙ ap (λ v. cond (p x) 1 v) (clear x h)) ∙ yes-cond (p x))

  pub marked_is : (x : ℕ) → x < n → (get_or marks x 0 ≡ 0 → ⊥) → true ≡ p x
  marked_is x h q = sym (sym (marked-yes x h) ∙ ap not (ne_eqb (get_or marks x 0) 0 q))

  pub marked_not : (x : ℕ) → x < n → get_or marks x 0 ≡ 0 → false ≡ p x
  marked_not x h q = sym (sym (marked-yes x h) ∙ ap not (eq-eqb (get_or marks x 0) 0 q))

-- the warning from the marks of the closed union, and from the members that hit tells
module _ (d : ℕ → ℕ → Bool) (n s t : ℕ) (old marks : List ℕ) (tn : t < n) (clear : (x : ℕ) → x < n → get_or old x 0 ≡ 0) (long : n ≤ length old) (e : marks ≡ marking (closed d n s t) 1 old) where
  pub warns-target : (get_or marks t 0 ≡ 0 → ⊥) → true ≡ warns d n s t
  unfolding warns
  warns-target q = rw (← marked_is (closed d n s t) old marks n clear long e t tn q)

  pub warns-member : {r : Bool} → get_or marks t 0 ≡ 0 → r ≡ some_below (λ x. yes (get_or marks x 0) && d x s) n → r ≡ warns d n s t
  unfolding warns
  warns-member q k =
      k ∙ some_alike (λ x. yes (get_or marks x 0) && d x s) (λ x. closed d n s t x && d x s) n (λ x h. ap (λ b. b && d x s) (marked-yes (closed d n s t) old marks n clear long e x h))
      ∙ ap (λ b. b || some_below (λ x. closed d n s t x && d x s) n) (marked_not (closed d n s t) old marks n clear long e t tn q)

pub hits_are : (l : List ℕ) (c n s : ℕ) (marks : List ℕ) → some_below (hit_at l c n s marks) n ≡ some_below (λ x. yes (get_or marks x 0) && flag_edge l c n x s) n
unfolding hit_at
hits_are l c n s marks = refl

-- what one node's edges close to is what it reaches in one step or more
module _ (d : ℕ → ℕ → Bool) (n : ℕ) (from : (x y : ℕ) → d x y ≡ true → x < n) (to : (x y : ℕ) → d x y ≡ true → y < n) (x y : ℕ) where
  pub closed-reach : closed d n x x y ≡ via d (below n) x y
  unfolding closed
  closed-reach = alike _ _ there back
    where
      there : some_below (λ w. (d x w || d x w) && (eqb w y || via d (below n) w y)) n ≡ true → via d (below n) x y ≡ true
      there h =
          let r = some_take (λ w. (d x w || d x w) && (eqb w y || via d (below n) w y)) n h in
          let w = r.0 in
          let first : d x w ≡ true = ⊎_elim (λ a. a) (λ a. a) (or_cases (d x w) _ (and_left (d x w || d x w) _ r.2)) in
          let rest = and_right (d x w || d x w) _ r.2 in
          let walk : Walk d x y = ⊎_elim (λ q. one (rw (eqb-true w y q) at first)) (λ q. more first (sound d (below n) w y q)) (or_cases (eqb w y) _ rest) in
          complete d (below n) (sources-below from) x y walk

      onward : Walk d x y → some_below (λ w. (d x w || d x w) && (eqb w y || via d (below n) w y)) n ≡ true
      onward (one h) = some_give _ n y (to x y h) (and_both _ _ (or_left _ _ h) (or_left _ _ (eq-eqb y y refl)))
      onward (more {y = w} h p) = some_give _ n w (to x w h) (and_both _ _ (or_left _ _ h) (or_right (eqb w y) _ (complete d (below n) (sources-below from) w y p)))

      back : via d (below n) x y ≡ true → some_below (λ w. (d x w || d x w) && (eqb w y || via d (below n) w y)) n ≡ true
      back h = onward (sound d (below n) x y h)

-- a hit, by the two numbers
module _ (l : List ℕ) (c n s : ℕ) (marks : List ℕ) (x : ℕ) where
  pub hit_none : get_or marks x 0 ≡ 0 → false ≡ hit_at l c n s marks x
  unfolding hit_at
  hit_none h = rw (eq-eqb (get_or marks x 0) 0 h)

  pub hit_some : (get_or marks x 0 ≡ 0 → ⊥) → x < n → s < n → not (eqb (get_or l (x * c + s) 0) 0) ≡ hit_at l c n s marks x
  unfolding hit_at
  hit_some h a b = rw (ne_eqb (get_or marks x 0) 0 h) (sym (flag_is l c n x s a b))
