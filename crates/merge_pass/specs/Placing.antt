-- A candidate is placed, and its answers are written: what the code's steps give. Assumes nothing.
use Rattle.std.specs.Prelude.{ℕ, ◌+◌, ◌≡◌, refl, Bool, List, get_or, set}
use Rattle.std.proofs.Common.{arith, ap, ◌∙◌}
use Rattle.std.proofs.Math.Path.{sym}
use Rattle.std.proofs.Math.Bool.{true, false, not}
use borrow.Author.Tests.{eq-eqb, ne_eqb}
use Rattle.merge_state.specs.declared.Sizes.{Sizes}
use Rattle.merge_state.specs.State.{None, Graph}
use Rattle.merge_state.specs.Merges.{waits}
use Rattle.merge_state.specs.Methods.{merges, warn}
use Rattle.merge_state.specs.Kept.{default_in}
use Rattle.merge_area.specs.Layout.{cell, head}
use Rattle.merge_area.specs.Read.{read}
use Rattle.merge_area.specs.Writes.{merge_area, create_area, candidate_area}
use Rattle.merge_reads.specs.Pass.{CanPlace}
use Rattle.merge_pass.specs.declared.Placed.{Placed}
use Rattle.merge_pass.specs.Turns.{kind_of, number_of, kind_in, number_in, PlacedIn, CanAnswer, CanTurn, TurnedIn}

-- merged if proposed, unwarned and unbarred, test by test
module _ (g : Graph) (x p b : ℕ) where
  pub not_proposed : p ≡ None → false ≡ merges g x p b
  unfolding merges
  not_proposed h = rw (eq-eqb p None h)

  pub barred : (p ≡ None → ⊥) → (b ≡ 0 → ⊥) → false ≡ merges g x p b
  unfolding merges
  barred n h = rw (ne_eqb p None n, ne_eqb b 0 h)

  pub asked : {w : Bool} → (p ≡ None → ⊥) → b ≡ 0 → w ≡ warn g x p → not w ≡ merges g x p b
  unfolding merges
  asked n h e = rw (ne_eqb p None n, eq-eqb b 0 h) (ap not e)

-- the two ways to place a candidate
module _ (z : Sizes) (a : List ℕ) (x p b : ℕ) {t : Bool} (e : t ≡ merges (read z a) x p b) (r : Placed) {after : List ℕ} where
  pub placed-merged : t ≡ true → kind_in r ≡ 0 → number_in r ≡ p → after ≡ merge_area z a p x → PlacedIn z a x p b r after
  unfolding kind_of number_of candidate_area
  placed-merged h k n d =
      let f : merges (read z a) x p b ≡ true = sym e ∙ h in
      record { kind = rw f k; number = rw f n; area = rw f d }

  pub placed_created : t ≡ false → kind_in r ≡ 1 → number_in r ≡ cell a (head z 0) + cell a (head z 2) → after ≡ create_area z a x → PlacedIn z a x p b r after
  unfolding kind_of number_of candidate_area
  placed_created h k n d =
      let f : merges (read z a) x p b ≡ false = sym e ∙ h in
      record { kind = rw f k; number = rw f n; area = rw f d }

-- a turn
module _ {z : Sizes} {a ps bs ks ns : List ℕ} {k j : ℕ} (c : CanTurn z a ps bs ks ns k j) where
  pub turn-none : waits (read z a) k ≡ false → TurnedIn z a ps bs ks ns k j j a ks ns
  turn-none f = record { next = rw f (omega arith); area = rw f refl; kinds = rw f refl; numbers = rw f refl }

  module _ (f : waits (read z a) k ≡ true) where
    pub can_answer : CanAnswer z a ps bs ks ns k j
    can_answer = c.answer f

    pub turn-place : CanPlace z a k (get_or ps j 0)
    turn-place = rw (← default_in ps j None can_answer.proposals) can_answer.place

    pub turn-done : {r : Placed} {after : List ℕ} → PlacedIn z a k (get_or ps j 0) (get_or bs j 0) r after → TurnedIn z a ps bs ks ns k j (j + 1) after (set ks j (kind_in r)) (set ns j (number_in r))
    turn-done {r} v =
        let d = default_in ps j None can_answer.proposals in
        record { next = rw f refl; area = rw (f, d) v.area; kinds = rw (f, d) (ap (set ks j) v.kind); numbers = rw (f, d) (ap (set ns j) v.number) }
