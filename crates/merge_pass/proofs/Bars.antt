-- A candidate's proposal and bar, as the definitions take them. Assumes nothing.
use Rattle.std.specs.Prelude.{ℕ, ◌+◌, ◌<◌, ◌≡◌, refl, Bool, true, false, not, cond, ◌&&◌, List, eqb, get_or, set, Option, Some, None as NoChunk}
use Rattle.std.proofs.Common.{arith, sym, ap, subst, ◌∙◌, ne_eqb}
use Rattle.graphs.specs.Count.{ind}
use Rattle.merge_state.specs.declared.Sizes.{Sizes}
use Rattle.merge_state.specs.declared.ChunkIdx.{ChunkIdx}
use Rattle.merge_state.specs.State.{None, Graph, yes}
use Rattle.merge_state.specs.Named.{number_of, Proper, named, number_named}
use Rattle.merge_state.specs.Methods.{warn, merges}
use Rattle.merge_state.specs.Merges.{waits}
use Rattle.merge_area.specs.Layout.{cell, head}
use Rattle.merge_area.specs.Read.{read}
use Rattle.merge_area.specs.Writes.{merge_area, create_area, candidate_area}
use Rattle.merge_reads.specs.Pass.{CanPlace}
use Rattle.merge_pass.specs.declared.Placed.{Placed}
use Rattle.merge_pass.specs.Turns as turns
use Rattle.merge_pass.specs.Turns.{kind_of, kind_in, number_in, PlacedIn, CanAnswer, CanTurn, TurnedIn, CanPass}
use Rattle.merge_pass.specs.Going.{Going, going_can}
use Rattle.merge_pass.specs.Placing.{not_proposed, turn-place, turn-done}

unbarred : (bar : Bool) → eqb (ind bar) 0 ≡ not bar
unbarred true = refl
unbarred false = refl

proposed : (g : Graph) (x p : ℕ) (bar : Bool) → (p ≡ None → ⊥) → merges g x p (ind bar) ≡ (not bar && not (warn g x p))
unfolding merges
proposed g x p bar h = rw (ne_eqb p None h, unbarred bar)

module _ (g : Graph) (x : ℕ) (o : Option ChunkIdx) (bar : Bool) where
  pub unproposed : o ≡ NoChunk → merges g x (number_of o) (ind bar) ≡ false
  unproposed e = sym (not_proposed g x (number_of o) (ind bar) (ap number_of e))

  pub decided : {p : ChunkIdx} → o ≡ Some p → Proper o → {t : Bool} → t ≡ (not bar && not (warn g x p.0)) → t ≡ merges g x (number_of o) (ind bar)
  decided {p} e r h = let q = subst Proper e r in h ∙ sym (proposed g x p.0 bar q) ∙ ap (λ v. merges g x (number_of v) (ind bar)) (sym e)

-- 0 is no bar
flagged : (t : Bool) → eqb (ind (not t)) 0 ≡ t
flagged true = refl
flagged false = refl

merges_flag : (g : Graph) (x p b : ℕ) → merges g x p (ind (yes b)) ≡ merges g x p b
unfolding merges
merges_flag g x p b = ap (λ t. (not (eqb p None) && t) && not (warn g x p)) (flagged (eqb b 0))

-- a proposal and a bar as numbers of lists
module _ (z : Sizes) (a : List ℕ) (x p b : ℕ) where
  same_kind : kind_of (read z a) x p (ind (yes b)) ≡ kind_of (read z a) x p b
  unfolding kind_of
  same_kind = ap (λ t. cond t 0 1) (merges_flag (read z a) x p b)

  same-number : turns.number_of (read z a) x p (ind (yes b)) ≡ turns.number_of (read z a) x p b
  unfolding turns.number_of
  same-number = ap (λ t. cond t p (cell a (head z 0) + cell a (head z 2))) (merges_flag (read z a) x p b)

  same_area : candidate_area z a x p (ind (yes b)) ≡ candidate_area z a x p b
  unfolding candidate_area
  same_area = ap (λ t. cond t (merge_area z a p x) (create_area z a x)) (merges_flag (read z a) x p b)

  pub placed_flag : {r : Placed} {after : List ℕ} → PlacedIn z a x (number_of (named p)) (ind (yes b)) r after → PlacedIn z a x p b r after
  placed_flag {r} {after} v =
      let w = subst (λ q. PlacedIn z a x q (ind (yes b)) r after) (number_named p) v in
      record { kind = w.kind ∙ same_kind; number = w.number ∙ same-number; area = w.area ∙ same_area }

-- a turn, of a chunk that waits or one that doesn't
module _ {z : Sizes} {a ps bs ks ns : List ℕ} {k j : ℕ} (c : CanTurn z a ps bs ks ns k j) {t : Bool} (e : t ≡ waits (read z a) k) (h : t ≡ true) where
  pub room : CanAnswer z a ps bs ks ns k j
  room = c.answer (sym e ∙ h)

  pub turn_place : CanPlace z a k (number_of (named (get_or ps j 0)))
  turn_place = rw number_named (turn-place c (sym e ∙ h))

  pub turn_done : {r : Placed} {after : List ℕ} → PlacedIn z a k (number_of (named (get_or ps j 0))) (ind (yes (get_or bs j 0))) r after
      → TurnedIn z a ps bs ks ns k j (j + 1) after (set ks j (kind_in r)) (set ns j (number_in r))
  turn_done v = turn-done c (sym e ∙ h) (placed_flag z a k (get_or ps j 0) (get_or bs j 0) v)

-- the turn of chunk k, as far as the pass has come
module _ {z : Sizes} {a ps bs ks₀ ns₀ : List ℕ} (c : CanPass z a ps bs ks₀ ns₀) {made k j : ℕ} {r ks ns : List ℕ}
    (v : (made ≡ cell a (head z 1)) × Going z a ps bs ks₀ ns₀ k j r ks ns) (h : k < made) where
  pub turn_of : CanTurn z r ps bs ks ns k j
  turn_of = going_can c v.1 (omega (arith, v.0))

  pub room_of : {t : Bool} → t ≡ waits (read z r) k → t ≡ true → CanAnswer z r ps bs ks ns k j
  room_of e w = room turn_of e w
