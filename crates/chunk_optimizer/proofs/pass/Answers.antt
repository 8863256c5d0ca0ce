-- Refused by a row, or done. Assumes nothing.
use Rattle.std.proofs.Common.{arith, refl}
use Rattle.std.proofs.lemmas.Result.{err_from_is_err_and}
use Rattle.merge_laws.specs.Rows.{row_some}
use Rattle.merge_pass.specs.Called.{may_pass, few_candidates, refused_pass, acted_pass}
use Rattle.chunk_optimizer.proofs.pass.Goals as goal

pub returns-in_err-pass_row : goal.returns-in_err-pass_row
returns-in_err-pass_row c =
    let p = err_from_is_err_and c.from_residual.result c.from_residual.ensures.1 in
    rw (p.1, p.2) (refused_pass _ _ _ _ _ _ c.in_err-pass_row.ensures (row_some _))

pub overflow_cast-n : goal.overflow_cast-n
overflow_cast-n c = omega (arith, few_candidates _ _ _ _ _ _ c.in_ok-pass_row.ensures refl)

pub commit-requires : goal.commit-requires
commit-requires c = may_pass _ _ _ _ _ _ c.in_ok-pass_row.ensures refl

pub returns : goal.returns
returns c = acted_pass _ _ _ _ _ _ c.in_ok-pass_row.ensures refl c.commit.ensures
