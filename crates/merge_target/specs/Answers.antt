-- What the calls answer, in the terms of the definitions. Assumes nothing.
use Rattle.std.specs.Prelude.{Option, None, Some, Result, Ok, Err}
use Rattle.refusals.specs.declared.Refusal.{Refusal}
use Rattle.refusals.specs.Rows.{row}
use Rattle.merge_state.specs.declared.ChunkIdx.{ChunkIdx}
use Rattle.merge_state.specs.Table.{Answer, refused, chunk, nothing}

abbrev pub found_told : Option ChunkIdx → Answer
found_told (Some x) = chunk x.0
found_told None = nothing

abbrev pub target_told : Result (Option ChunkIdx) Refusal → Answer
target_told (Ok x) = found_told x
target_told (Err r) = refused (row r)
