-- For the code: slots without a node. A slot with an end z has both ends 0 instead, and is no edge. Assumes nothing.
use Rattle.std.specs.Prelude.{ℕ, ◌<◌, ◌≡◌, refl, Bool, true, false, cond, ◌||◌, List, eqb, get_or}
use Rattle.std.proofs.Common.{sym, ap, ◌∙◌, true≢false}
use borrow.Author.Tests.{ltb-true, lt-ltb, eq-eqb, ne_eqb}
use Rattle.graphs.specs.Bools.{or_left, or_right, or_false, alike}
use Rattle.graphs.specs.Count.{count_pos, count-found}
use Rattle.graphs.specs.Slots.{same, slot, mult, slot_edge}
use Rattle.graphs.specs.SlotLaws.{same-yes, same_ends}
use Rattle.move_free_walks.specs.Joins.{cut, cut_edge, edge-cut}

-- the two ends, or 0 where one of them is z
abbrev pub blank : ℕ → ℕ → ℕ → ℕ → ℕ
blank z x y r = cond (eqb x z || eqb y z) 0 r

-- s' and t' are the slots s and t without z
pub record Blanks (s t s' t' : List ℕ) (z m : ℕ) : Type 0 where
  pub source : (k : ℕ) → k < m → get_or s' k 0 ≡ blank z (get_or s k 0) (get_or t k 0) (get_or s k 0)
  pub target : (k : ℕ) → k < m → get_or t' k 0 ≡ blank z (get_or s k 0) (get_or t k 0) (get_or t k 0)

module _ {s t s' t' : List ℕ} {z m : ℕ} (v : Blanks s t s' t' z m) where
  found : (s t : List ℕ) (x y : ℕ) → slot_edge s t m x y ≡ true → (k : ℕ) × (k < m) × (same (get_or s k 0) (get_or t k 0) x y ≡ true)
  unfolding slot_edge mult
  found s t x y h = count-found (slot s t x y) m (ltb-true 0 _ h)

  given : (s t : List ℕ) (x y k : ℕ) → k < m → same (get_or s k 0) (get_or t k 0) x y ≡ true → slot_edge s t m x y ≡ true
  unfolding slot_edge mult
  given s t x y k l h = lt-ltb 0 _ (count_pos (slot s t x y) m k l h)

  there : (x y : ℕ) → cut (slot_edge s t m) z x y ≡ true → slot_edge s' t' m x y ≡ true
  there x y h =
      let c = cut_edge (slot_edge s t m) z x y h in
      let r = found s t x y c.0 in
      let e = same_ends (get_or s r.0 0) (get_or t r.0 0) x y r.2 in
      let o : (eqb (get_or s r.0 0) z || eqb (get_or t r.0 0) z) ≡ false = or_false _ _ (ne_eqb _ _ (λ q. c.1 (sym e.0 ∙ q))) (ne_eqb _ _ (λ q. c.2 (sym e.1 ∙ q))) in
      given s' t' x y r.0 r.1
      (same-yes _ _ x y e.2
      (v.source r.0 r.1 ∙ ap (λ k. cond k 0 (get_or s r.0 0)) o ∙ e.0)
      (v.target r.0 r.1 ∙ ap (λ k. cond k 0 (get_or t r.0 0)) o ∙ e.1))

  back : (x y : ℕ) → slot_edge s' t' m x y ≡ true → cut (slot_edge s t m) z x y ≡ true
  back x y h =
      let r = found s' t' x y h in
      let e = same_ends (get_or s' r.0 0) (get_or t' r.0 0) x y r.2 in
      go r.0 r.1 e.2 (eqb (get_or s r.0 0) z || eqb (get_or t r.0 0) z) refl (sym (v.source r.0 r.1) ∙ e.0) (sym (v.target r.0 r.1) ∙ e.1)
    where
      go : (k : ℕ) → k < m → (x ≡ y → ⊥) → (u : Bool) → (eqb (get_or s k 0) z || eqb (get_or t k 0) z) ≡ u → cond (eqb (get_or s k 0) z || eqb (get_or t k 0) z) 0 (get_or s k 0) ≡ x
          → cond (eqb (get_or s k 0) z || eqb (get_or t k 0) z) 0 (get_or t k 0) ≡ y → cut (slot_edge s t m) z x y ≡ true
      go k l d true q a b = absurd (d (sym a ∙ ap (λ u. cond u 0 (get_or s k 0)) q ∙ sym (ap (λ u. cond u 0 (get_or t k 0)) q) ∙ b))
      go k l d false q a b =
          let sx = sym (ap (λ u. cond u 0 (get_or s k 0)) q) ∙ a in
          let ty = sym (ap (λ u. cond u 0 (get_or t k 0)) q) ∙ b in
          edge-cut (slot_edge s t m) z x y (given s t x y k l (same-yes _ _ x y d sx ty))
          (λ w. true≢false (sym (or_left (eqb (get_or s k 0) z) _ (eq-eqb _ _ (sx ∙ w))) ∙ q))
          (λ w. true≢false (sym (or_right (eqb (get_or s k 0) z) _ (eq-eqb _ _ (ty ∙ w))) ∙ q))

  -- the blanked slots are the graph without z
  pub blanked_cut : (x y : ℕ) → slot_edge s' t' m x y ≡ cut (slot_edge s t m) z x y
  blanked_cut x y = alike _ _ (back x y) (there x y)
