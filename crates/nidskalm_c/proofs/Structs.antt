-- A call on a struct is the call on the parameters that it is made of. Assumes nothing.
use Rattle.std.specs.Prelude.{ℕ, ◌≡◌, List, refl}
use Rattle.std.proofs.Common.{ap, ◌∙◌}
use Rattle.graphs.specs.Count.{ind}
use Rattle.merge_state.specs.declared.Sizes.{Sizes}
use Rattle.merge_state.specs.State.{yes}
use Rattle.merge_state.specs.Table.{Answer}
use Rattle.merge_reads.specs.Fields.{yes-ind}
use Rattle.merge_loading.specs.Loading.{lent, load_refusal, mode_area, loaded_area, load_step}
use Rattle.merge_state.specs.Loading.{over_load, bad_load, later_load}
use Rattle.merge_choice.specs.Choice.{Lent}

-- the choice of a target, by the chunks, the modules, the kinds and the lists
pub same_choice : {k k' m m' s : ℕ} {kinds kinds' : List ℕ} {l l' : Lent} (find : ℕ → ℕ → List ℕ → ℕ → Lent → Answer) → k ≡ k' → m ≡ m' → kinds ≡ kinds' → l ≡ l'
    → find k m kinds s l ≡ find k' m' kinds' s l'
same_choice find a b c d = rw (a, b, c, d) refl

-- of the mode, a loading tells whether it is 0
mode_as_flag : (z : Sizes) (initial : ℕ) (starts modules sets chunks effects : List ℕ) (mode : ℕ) (area : List ℕ)
    → load_step z (lent initial starts modules sets chunks effects (ind (yes mode))) area ≡ load_step z (lent initial starts modules sets chunks effects mode) area
unfolding load_step load_refusal loaded_area mode_area over_load bad_load later_load
mode_as_flag z initial starts modules sets chunks effects mode area = rw (yes-ind (yes mode)) refl

-- and its sizes are y
pub loads : {z y : Sizes} → z ≡ y → (initial : ℕ) (starts modules sets chunks effects : List ℕ) (mode : ℕ) (area : List ℕ)
    → load_step z (lent initial starts modules sets chunks effects (ind (yes mode))) area ≡ load_step y (lent initial starts modules sets chunks effects mode) area
loads {y = y} e initial starts modules sets chunks effects mode area =
    ap (λ (x : Sizes). load_step x (lent initial starts modules sets chunks effects (ind (yes mode))) area) e ∙ mode_as_flag y initial starts modules sets chunks effects mode area
