-- The classes of the entry kinds: the built-in table, and a bank's own. Assumes nothing.
use Rattle.std.specs.Prelude.{ℕ, ◌/◌, ◌%◌, ◌<◌, ◌≡◌, refl, Bool, true, false, not, ◌&&◌, ◌||◌, List, get_or, length, eqb}
use Rattle.std.proofs.Common.{◌∙◌, eq-eqb, ne_eqb, eqb-true}
use Rattle.std.proofs.Math.Path.{ap}
use Rattle.std.proofs.lemmas.Bool.{not-false}
use Rattle.graphs.specs.Bools.{or_false_left, or_false_right}
use Rattle.graphs.specs.Lists.{any, below, some_none}
use Rattle.merge_state.specs.State.{misfit}
use Rattle.merge_state.specs.Table.{Answer, refused, any_misfit, other_length}
use Rattle.merge_state.specs.Kept.{no_misfit}
use Rattle.merge_choice.specs.Choice.{Lent, choice, built_in}
use Rattle.merge_choice.specs.Find.{row23, row25, told, find_by}

-- a kind with UserDefinedEntry, which is its 1, or EmittedChunk, its 4
unfoldable pub user_kind : ℕ → Bool
user_kind kind = eqb (kind % 2) 1 || eqb (kind / 4 % 2) 1

-- the built-in rows can be lent
pub built_in-legal : row25 built_in ≡ false
unfolding any below misfit any_misfit row25
built_in-legal = refl

-- what holds of lent rows that 25 doesn't refuse
pub record Classes (c : List ℕ) : Type 0 where
  pub eight : length c ≡ 8
  pub small : (i : ℕ) → i < length c → get_or c i 0 < 2
  pub odd : (i : ℕ) → i < 8 → i % 2 ≡ 1 → get_or c i 0 ≡ 1

pub classes : (c : List ℕ) → row25 c ≡ false → Classes c
unfolding row25
classes c h =
    let h₁ = or_false_right (other_length c 8) _ h in
    record {
      eight = eqb-true _ _ (not-false _ (or_false_left (other_length c 8) _ h));
      small = no_misfit 2 c (or_false_left (any_misfit 2 false c) _ h₁);
      odd = λ i b e.
          let q = some_none (λ i. eqb (i % 2) 1 && not (eqb (get_or c i 0) 1)) 8 (or_false_right (any_misfit 2 false c) _ h₁) i b in
          eqb-true _ _ (not-false _ (rw (eq-eqb (i % 2) 1 e) at q));
    }

-- the cases of an odd row
pub row_even : (c : List ℕ) (i : ℕ) → (i % 2 ≡ 1 → ⊥) → false ≡ (eqb (i % 2) 1 && not (eqb (get_or c i 0) 1))
row_even c i h = rw (ne_eqb (i % 2) 1 h)

pub row_odd : (c : List ℕ) (i : ℕ) → i % 2 ≡ 1 → not (eqb (get_or c i 0) 1) ≡ (eqb (i % 2) 1 && not (eqb (get_or c i 0) 1))
row_odd c i h = rw (eq-eqb (i % 2) 1 h)

-- the answer, row by row
module _ (c : List ℕ) (k m : ℕ) (kinds : List ℕ) (set : ℕ) (l : Lent) where
  pub by-lists : row23 k m kinds l ≡ true → refused 23 ≡ find_by c k m kinds set l
  unfolding find_by
  by-lists h = rw h

  pub by_classes : row23 k m kinds l ≡ false → row25 c ≡ true → refused 25 ≡ find_by c k m kinds set l
  unfolding find_by
  by_classes h g = rw (h, g)

  pub by-choice : {r : Answer} {t : ℕ} → row23 k m kinds l ≡ false → row25 c ≡ false → t ≡ choice c kinds set l → r ≡ told t → r ≡ find_by c k m kinds set l
  unfolding find_by
  by-choice h g e f = rw (h, g) (f ∙ ap told e)
