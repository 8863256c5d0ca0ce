-- What each answer says. Assumes nothing.
use Rattle.std.specs.Prelude.{ℕ, List, Bool, Option, Some, None, Result, Ok, Err}
use Rattle.refusals.specs.declared.Refusal.{Refusal}
use Rattle.refusals.specs.Rows.{row}
use Rattle.merge_state.specs.declared.ChunkIdx.{ChunkIdx}
use Rattle.merge_state.specs.Table.{Answer, done, refused, says, chunk, nothing, lists}

abbrev pub done_told : Result Unit Refusal → Answer
done_told (Ok x) = done
done_told (Err r) = refused (row r)

abbrev pub option_told : Option ChunkIdx → Answer
option_told (Some x) = chunk x.0
option_told None = nothing

abbrev pub temp_told : Result (Option ChunkIdx) Refusal → Answer
temp_told (Ok x) = option_told x
temp_told (Err r) = refused (row r)

abbrev pub said_told : Result Bool Refusal → Answer
said_told (Ok b) = says b
said_told (Err r) = refused (row r)

-- the pass's answer lies in the two lists that it was lent, and how many candidates it says that it assigned
abbrev pub pass_told : Result ℕ Refusal → List ℕ × List ℕ → Answer
pass_told (Ok n) l = lists l.0 l.1
pass_told (Err r) l = refused (row r)

abbrev pub assigned : Result ℕ Refusal → ℕ
assigned (Ok n) = n
assigned (Err r) = 0
