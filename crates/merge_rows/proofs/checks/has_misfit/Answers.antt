-- A list has a misfit where it has faults. Assumes nothing.
use Rattle.std.proofs.Common.{true}
use Rattle.merge_rows.proofs.Laws.{misfit_is}
use Rattle.merge_rows.proofs.checks.has_misfit.Goals as goal

pub returns-then-free : goal.returns-then-free
returns-then-free c = rw (c.if-free.true) (misfit_is _ _ true c.count_faults.ensures.value)
