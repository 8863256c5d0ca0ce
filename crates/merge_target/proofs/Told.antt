-- What a target is told as. Assumes nothing.
use Rattle.std.specs.Prelude.{ℕ, ◌≡◌, refl, ◌<◌, ◌≤◌, List, Option, Some, None, IfSome}
use Rattle.std.proofs.Common.{arith}
use Rattle.merge_state.specs.declared.ChunkIdx.{ChunkIdx}
use Rattle.merge_choice.specs.Choice.{Lent, built_in}
use Rattle.merge_choice.specs.Chosen.{told_none, told_some}
use Rattle.merge_choice.specs.Classes.{built_in-legal}
use Rattle.merge_choice.specs.Find.{told, find, find_by}
use Rattle.merge_state.specs.Named.{number_of}
use Rattle.merge_target.specs.Answers.{found_told}

pub told_is : (r : Option ChunkIdx) (k : ℕ) → k ≤ 1024 → IfSome r (λ t. t.0 < k) → found_told r ≡ told (number_of r)
told_is (Some t) k few h = told_some t.0 (λ z. omega arith)
told_is None k few h = told_none _ refl

-- the built-in classes are refused by no row
pub built_in_find : (k m : ℕ) (kinds : List ℕ) (set : ℕ) (l : Lent) → find_by built_in k m kinds set l ≡ find k m kinds set l
unfolding find find_by
built_in_find k m kinds set l = rw built_in-legal
