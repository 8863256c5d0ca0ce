-- Theorems on the definitions of specs/MergeSwap: they stand here, so that the crate can be read with a definition changed. Assumes nothing.
use Prim.Native.Nat.{ℕ}
use Rattle.std.specs.Prelude.{◌≡◌, List, ◌∷◌, ◌++◌}
use Rattle.std.proofs.Math.Path.{ap}
use Rattle.merge_state.specs.declared.Sizes.{Sizes}
use Rattle.merge_state.specs.Merges.{counts}
use Rattle.merge_state.specs.Table.{Call, merge_chunk_dependencies}
use Rattle.merge_area.specs.Read.{read}
use Rattle.merge_area.specs.Calls.{ends}
use Rattle.merge_laws.specs.Rows.{free}
use Rattle.demands.specs.MergeSwap.{swapped_merges}

-- the same for the counted dependencies, under the same condition: they are those of equal areas
pub swapped_counted : (z : Sizes) (a : List ℕ) (before after : List Call) (target source target' source' : ℕ) → (source ≡ source' → ⊥) → (source ≡ target' → ⊥) → (source' ≡ target → ⊥)
    → counts (read z (ends z a (before ++ (merge_chunk_dependencies target source ∷ merge_chunk_dependencies target' source' ∷ after))))
    ≡ counts (read z (ends z a (before ++ (merge_chunk_dependencies target' source' ∷ merge_chunk_dependencies target source ∷ after))))
swapped_counted z a before after t s u v apart free alone = ap (λ r. counts (read z r)) (swapped_merges z a before after t s u v apart free alone).area
