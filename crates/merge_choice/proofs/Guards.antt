-- Theorems on the definitions of specs/Guards: they stand here, so that the crate can be read with a definition changed. Assumes nothing.
use Rattle.std.specs.Prelude.{ℕ, ◌≡◌, refl, Bool, true, false, ◌&&◌, ◌||◌, List, get_or, length}
use Rattle.std.proofs.Common.{sym, ◌∙◌}
use Rattle.std.proofs.Math.Path.{ap, fun_ext}
use Rattle.std.proofs.Math.Bool.{not, cond}
use Rattle.std.proofs.Math.Dec.{eqb}
use borrow.Author.Tests.{eqb-true}
use Rattle.graphs.specs.Bools.{alike, and_left, and_right, and_both}
use Rattle.graphs.specs.Lists.{some_below, some_give, some_take}
use Rattle.merge_choice.specs.Choice.{lists, size, some_from, some_of, some_in, in_list, there, strayed}
use Rattle.merge_choice.specs.Marks.{Marked, hits, all, part, empty}
use Rattle.merge_choice.specs.Named.{reads}
use Rattle.merge_choice.specs.Guards.{stands, outside, one_or_none, Zero}

twice : (g h : Bool) (v : ℕ) → v ≡ 0 → eqb (cond g 1 (cond h 1 v)) 0 ≡ not (h || g)
twice true true v e = refl
twice true false v e = refl
twice false h v e = one_or_none h v e ∙ ap not (sym (or-false-end h))
  where
    or-false-end : (h : Bool) → (h || false) ≡ h
    or-false-end true = refl
    or-false-end false = refl

-- importers
module _ (homes modules starts items candidate : List ℕ) (t : ℕ) {l₀ l₁ l₂ : List ℕ} (z : Zero l₀)
    (m₁ : Marked all (part modules (get_or homes t 0)) (size (lists homes modules) t) 1 l₀ l₁)
    (m₂ : Marked (empty candidate starts) (reads candidate) (length candidate) 1 l₁ l₂) where
  -- the candidate's module that is y, and its empty list
  free_is : (y : ℕ) → hits (empty candidate starts) (reads candidate) (length candidate) y ≡ (some_in candidate (eqb y) && eqb (size (lists starts items) y) 0)
  unfolding hits some_in
  free_is y =
      alike _ _
      (λ h.
      let r = some_take (λ i. empty candidate starts i && eqb y (get_or candidate i 0)) (length candidate) h in
      let q = and_right (empty candidate starts r.0) _ r.2 in
      and_both _ _ (some_give (λ i. eqb y (get_or candidate i 0)) (length candidate) r.0 r.1 q)
      (ap (λ k. eqb (size (lists starts items) k) 0) (eqb-true y (get_or candidate r.0 0) q) ∙ and_left (empty candidate starts r.0) _ r.2))
      (λ h.
      let r = some_take (λ i. eqb y (get_or candidate i 0)) (length candidate) (and_left (some_below (λ i. eqb y (get_or candidate i 0)) (length candidate)) _ h) in
      some_give (λ i. empty candidate starts i && eqb y (get_or candidate i 0)) (length candidate) r.0 r.1
      (and_both _ _ (ap (λ k. eqb (size (lists starts items) k) 0) (sym (eqb-true y (get_or candidate r.0 0) r.2)) ∙ and_right (some_below (λ i. eqb y (get_or candidate i 0)) (length candidate)) _ h) r.2))

  stray_at : (y : ℕ) → stands l₂ 0 y ≡ not (there (lists homes modules) (lists starts items) candidate t y)
  unfolding there hits some_from
  stray_at y =
      ap (λ v. eqb v 0) (m₂.at y ∙ ap (λ v. cond (hits (empty candidate starts) (reads candidate) (length candidate) y) 1 v) (m₁.at y))
      ∙ ap (λ b. eqb (cond b 1 (cond (in_list (lists homes modules) t y) 1 (get_or l₀ y 0))) 0) (free_is y)
      ∙ twice (some_in candidate (eqb y) && eqb (size (lists starts items) y) 0) (in_list (lists homes modules) t y) (get_or l₀ y 0) (z y)

  pub strayed_is : {r : Bool} → r ≡ some_in candidate (outside starts items l₂) → r ≡ strayed (lists homes modules) (lists starts items) candidate t
  unfolding strayed some_from
  strayed_is e = e ∙ ap (λ p. some_in candidate (λ m. some_of (lists starts items) m p)) (fun_ext stray_at)
