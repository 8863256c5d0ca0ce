-- The rows, then the chunks. Assumes nothing.
use Rattle.std.proofs.Common.{◌∙◌, refl}
use Rattle.refusals.specs.Rows.{row_some}
use Rattle.reduced_chunk_graph.specs.Answers.{of_number}
use Rattle.reduced_chunk_graph.specs.Asked.{handed_on}
use Rattle.start_order.specs.Calls.{call_refused, call_on, call-answer}
use Rattle.start_order.proofs.start_order.Goals as goal

pub returns-in_err-listed_row : goal.returns-in_err-listed_row
returns-in_err-listed_row c =
    let all = call_refused _ _ c.in_err-listed_row.ensures (row_some _) in
    record { result_value = handed_on of_number _ (λ _. refl) c.from_residual.ensures.1 ∙ all.0; chunks_after = all.1 }

pub go_on-requires : goal.go_on-requires
go_on-requires c = call_on c.in_ok-listed_row.ensures

pub returns : goal.returns
returns c =
    let all = call-answer _ _ c.in_ok-listed_row.ensures c.go_on.ensures in
    record { result_value = all.0; chunks_after = all.1 }
