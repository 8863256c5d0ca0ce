-- What the answers of the calls say, in the ledger's numbers and values. Assumes nothing.
use Rattle.std.specs.Prelude.{ℕ, Option, Result, Ok, Err}
use Rattle.std.specs.declared.cmp.Ordering.{Ordering}
use Rattle.entry_set.specs.Sets.{numbers}
use Rattle.entry_set.specs.declared.EntrySet.{EntrySet}
use Rattle.move_ledger.specs.Answer.{Answer, refused, acyclic}
use Rattle.move_ledger.specs.Answer as answer
use Rattle.move_questions.specs.Answers.{of_listed}
use Rattle.move_questions.specs.declared.Edge.{Edge}
use Rattle.move_rank.specs.Ranking.{of_ranked, told}
use Rattle.move_try.specs.Settle.{answer_of}
use Rattle.move_try.specs.declared.Moved.{Moved}
use Rattle.refusals.specs.Rows.{row}
use Rattle.refusals.specs.declared.Refusal.{Refusal}
use Rattle.reduced_chunk_graph.specs.declared.Verdict.{Verdict}
use Rattle.reduced_chunk_graph.specs.declared.Verdict.TheVariants.{Acyclic, Cyclic}

-- the answer of `new` and `has_cycle`
abbrev pub of_load : Result Verdict Refusal → Answer
of_load (Ok Acyclic) = acyclic
of_load (Ok Cyclic) = answer.cyclic
of_load (Err r) = refused (row r)

-- the answer of `try_move`: accepted with the report, or rejected
abbrev pub of_move : Result (Option Moved) Refusal → Answer
of_move (Ok report) = answer_of report
of_move (Err r) = refused (row r)

-- the answer of `atom_set`: four numbers of 64 bits
abbrev pub of_set : Result EntrySet Refusal → Answer
of_set (Ok s) = answer.set (numbers s)
of_set (Err r) = refused (row r)

-- the answer of `atom_count`, `multiplicity`, `edge_count` and `chunk_count`
abbrev pub of_number : Result ℕ Refusal → Answer
of_number (Ok k) = answer.number k
of_number (Err r) = refused (row r)

-- the answer of `rank`: before, equal and after by a number each
abbrev pub of_rank : Result Ordering Refusal → Answer
of_rank (Ok o) = told (of_ranked o)
of_rank (Err r) = refused (row r)

-- the answer of `edge_at`: the edge, or none
abbrev pub of_edge : Result (Option Edge) Refusal → Answer
of_edge (Ok e) = of_listed e
of_edge (Err r) = refused (row r)
