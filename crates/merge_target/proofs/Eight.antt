-- Row 25, by the eight classes of a list. Assumes nothing.
use Rattle.std.specs.Prelude.{ℕ, ◌≡◌, refl, ◌%◌, Bool, true, false, not, ◌&&◌, ◌||◌, List, length, get_or, eqb}
use Rattle.std.specs.List.{list_any, range_with_len}
use Rattle.std.proofs.Common.{◌∙◌, sym, eq-eqb, ne_eqb}
use Rattle.std.proofs.lemmas.Bool.{or_right, or_from}
use Rattle.merge_state.specs.Table.{any_misfit}
use Rattle.merge_choice.specs.Find.{row25}
use Rattle.merge_target.proofs.Any.{range_is_some}

pub other_number : (c : List ℕ) → (length c ≡ 8 → ⊥) → row25 c ≡ true
unfolding row25
other_number c h = rw (ne_eqb (length c) 8 h)

module _ (c : List ℕ) (long : length c ≡ 8) where
  odd : ℕ → Bool
  odd i = eqb (i % 2) 1 && not (eqb (get_or c i 0) 1)

  pub strays : any_misfit 2 false c ≡ true → row25 c ≡ true
  unfolding row25
  strays h = rw (eq-eqb (length c) 8 long, h)

  pub is_odd : list_any (λ i. eqb (i % 2) 1 && not (eqb (get_or c i 0) 1)) (range_with_len 0 8) ≡ true → row25 c ≡ true
  unfolding row25 odd
  is_odd h = rw (eq-eqb (length c) 8 long) (or_right (any_misfit 2 false c) _ (sym (range_is_some odd odd 8 (λ i b. refl)) ∙ h))

  pub fits : any_misfit 2 false c ≡ false → list_any (λ i. eqb (i % 2) 1 && not (eqb (get_or c i 0) 1)) (range_with_len 0 8) ≡ false → row25 c ≡ false
  unfolding row25 odd
  fits h k = rw (eq-eqb (length c) 8 long) (or_from (any_misfit 2 false c) _ h (sym (range_is_some odd odd 8 (λ i b. refl)) ∙ k))
