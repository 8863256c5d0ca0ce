-- Refused by a row, or done. Assumes nothing.
use Rattle.std.proofs.Common.{refl}
use Rattle.std.proofs.lemmas.Result.{err_from_is_err_and}
use Rattle.merge_state.specs.Table.{acted}
use Rattle.merge_area.specs.Writes.{write}
use Rattle.merge_state.specs.Named.{number_named, proper-named}
use Rattle.merge_laws.specs.May.{may_init}
use Rattle.merge_laws.specs.Rows.{acted_called}
use Rattle.chunk_optimizer.proofs.Refused.{refused_by}
use Rattle.chunk_optimizer.proofs.init_module_assignment.Goals as goal

pub returns-in_err-init_row : goal.returns-in_err-init_row
returns-in_err-init_row c = let p = err_from_is_err_and c.from_residual.result c.from_residual.ensures.1 in rw (p.1, p.2) (refused_by _ _ _ _ c.in_err-init_row.ensures)

pub invariant_of-standing : goal.invariant_of-standing
invariant_of-standing c = record { headed = (may_init _ _ _ _ _ c.in_ok-init_row.ensures refl).3 }

pub from_list-set-requires : goal.from_list-set-requires
from_list-set-requires c = (may_init _ _ _ _ _ c.in_ok-init_row.ensures refl).2

pub bounds-effects-m : goal.bounds-effects-m
bounds-effects-m c = (may_init _ _ _ _ _ c.in_ok-init_row.ensures refl).1

pub assign-requires : goal.assign-requires
assign-requires c = rw (c.find_chunk-chunk.ensures, number_named, c.from_list-set.ensures.value) ((may_init _ _ _ _ _ c.in_ok-init_row.ensures refl).0, proper-named _)

pub returns : goal.returns
unfolding acted write
returns c = acted_called _ _ _ c.in_ok-init_row.ensures refl refl (rw (c.find_chunk-chunk.ensures, number_named, c.from_list-set.ensures.value) at c.assign.ensures)
