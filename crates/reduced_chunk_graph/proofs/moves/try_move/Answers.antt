-- The rows, then the move. Assumes nothing.
use Rattle.std.proofs.Common.{◌∙◌, refl}
use Rattle.refusals.specs.Rows.{row_some}
use Rattle.reduced_chunk_graph.specs.Answers.{of_move}
use Rattle.reduced_chunk_graph.specs.Asked.{handed_on}
use Rattle.reduced_chunk_graph.specs.MoveLaws.{call_refused, call_on, call-answer}
use Rattle.reduced_chunk_graph.proofs.moves.try_move.Goals as goal

pub returns-in_err-later_row : goal.returns-in_err-later_row
returns-in_err-later_row c =
    let all = call_refused _ _ _ _ _ _ c.in_err-later_row.ensures (row_some _) in
    record { result_value = handed_on of_move _ (λ _. refl) c.from_residual.ensures.1 ∙ all.0; area_after = all.1 }

pub go_on-requires : goal.go_on-requires
go_on-requires c = call_on _ _ _ _ c.args.atom c.args.bits.now c.in_ok-later_row.ensures

pub returns : goal.returns
returns c =
    let all = call-answer _ _ _ _ _ _ c.in_ok-later_row.ensures c.go_on.ensures in
    record { result_value = all.0; area_after = all.1 }
