-- End by end. Assumes nothing.
use Rattle.std.proofs.Common.{sym, ap, not, ◌∙◌, arith, eq-eqb, ne_eqb}
use Rattle.graphs.specs.Lists.{some_zero, none_more, some_found, none_left}
use Rattle.merge_state.specs.State.{None}
use Rattle.merge_area.proofs.Merging.{left_at}
use Rattle.merge_area.proofs.merges.some_left.Goals as goal

pub loop-end-init : goal.loop-end-init
loop-end-init c = some_zero _

pub returns-then-area-into : goal.returns-then-area-into
returns-then-area-into c = some_found _ _ _ (omega arith) (ap not (ne_eqb _ None (λ q. c.if-area-into.true (left_at c.requires.0 (c.requires.1.each _ (omega arith)) c.into.ensures ∙ q))))

pub loop-end-preserved : goal.loop-end-preserved
loop-end-preserved c = none_more _ _ c.loop-end.invariant (ap not (eq-eqb _ None (sym (left_at c.requires.0 (c.requires.1.each _ (omega arith)) c.into.ensures) ∙ c.if-area-into.false)))

pub returns : goal.returns
returns c = none_left _ _ _ c.loop-end.invariant (omega arith)
