-- Row by row, and then the rows of the chunks that aren't made. Assumes nothing.
use Rattle.std.proofs.Common.{sym, ◌∙◌, arith}
use Rattle.graphs.specs.Bools.{or_left}
use Rattle.graphs.specs.Lists.{some_zero, none_more, some_found}
use Rattle.merge_area.specs.Consistent.{flags_fault}
use Rattle.merge_area.proofs.Laws.{flags-last}
use Rattle.merge_area.proofs.Area.flags_have_fault.Goals as goal

pub loop-x-init : goal.loop-x-init
loop-x-init c = some_zero _

pub returns-then-row_has_fault : goal.returns-then-row_has_fault
unfolding flags_fault
returns-then-row_has_fault c = sym (or_left _ _ (sym (some_found _ _ _ (omega arith) (sym c.row_has_fault.ensures ∙ c.if-row_has_fault.true))))

pub loop-x-preserved : goal.loop-x-preserved
loop-x-preserved c = none_more _ _ c.loop-x.invariant (sym c.row_has_fault.ensures ∙ c.if-row_has_fault.false)

pub returns : goal.returns
returns c = flags-last _ _ _ _ c.loop-x.invariant (omega arith) (rw c.header-made.ensures at c.count_faults.ensures.value)
