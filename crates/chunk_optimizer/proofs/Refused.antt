-- A call that a row refuses, and a key's chunk. Assumes nothing.
use Rattle.std.specs.Prelude.{ℕ, ◌≡◌, ◌<◌, refl, false, List, Option}
use Rattle.std.proofs.Common.{ap, ◌∙◌, eq-eqb, ne_eqb}
use Rattle.std.proofs.Math.Decide.{ℕ_discrete}
use Rattle.refusals.specs.declared.Refusal.{Refusal}
use Rattle.refusals.specs.Rows.{row}
use Rattle.merge_state.specs.declared.Sizes.{Sizes}
use Rattle.merge_state.specs.declared.ChunkIdx.{ChunkIdx}
use Rattle.merge_state.specs.Named.{named}
use Rattle.merge_state.specs.State.{None}
use Rattle.merge_state.specs.Table.{Call, refused, acted, to_temp_idx}
use Rattle.merge_area.specs.Calls.{refusal, standing, Called}
use Rattle.merge_area.specs.Layout.{cell, key}
use Rattle.merge_area.specs.Read.{read}
use Rattle.merge_area.specs.Writes.{write}
use Rattle.merge_laws.specs.May.{temp_stands, temp_none, temp_some}
use Rattle.merge_laws.specs.Rows.{row_some, refused_called, acted_called}
use Rattle.chunk_optimizer.specs.Answers.{option_told}

pub refused_by : (z : Sizes) (a : List ℕ) (c : Call) (r : Refusal) → row r ≡ refusal z a c → Called z a c (refused (row r)) a
refused_by z a c r e = refused_called z a c e (row_some r) refl refl

-- the chunk that a key's number names
pub key_told : (z : Sizes) (a : List ℕ) (k : ℕ) → k < z.chunks → option_told (named (cell a (key z k))) ≡ (acted z (read z a) (to_temp_idx k)).0
key_told z a k h = elim (ℕ_discrete (cell a (key z k)) None) [
  | yes q ↦ rw (eq-eqb (cell a (key z k)) None q) (temp_none z a k h q)
  | no q ↦ rw (ne_eqb (cell a (key z k)) None q) (temp_some z a k h q)
]

-- a key below C is answered by what its number names
pub key_called : (z : Sizes) (a : List ℕ) (k : ℕ) (r : Option ChunkIdx) → 0 ≡ standing z false false a → k < z.chunks → r ≡ named (cell a (key z k)) → Called z a (to_temp_idx k) (option_told r) a
unfolding write
key_called z a k r e h n = acted_called z a (to_temp_idx k) (temp_stands z a k e) refl (ap option_told n ∙ key_told z a k h) refl
