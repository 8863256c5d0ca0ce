-- One chunk more at each turn, until one wins. Assumes nothing.
use Rattle.std.proofs.Common.{arith, refl, ◌∙◌, sym}
use Rattle.graphs.specs.Tab.{zeros}
use Rattle.merge_choice.specs.Choice.{first_target}
use Rattle.merge_choice.specs.Search.{first-none, first_found, first-end, search_more}
use Rattle.merge_target.proofs.checked.Checked.first_target.Goals as goal

pub loop-t-init : goal.loop-t-init
loop-t-init c = record { long = refl; old = λ y. omega (arith, zeros 4096 y); none = first-none _ }

pub loop-t-preserved : goal.loop-t-preserved
loop-t-preserved c = search_more c.loop-t.invariant c.wins.ensures c.if-wins.false

pub returns-then-wins-clause-value : goal.returns-then-wins-clause-value
unfolding first_target
returns-then-wins-clause-value c = first_found _ _ _ (omega arith) c.loop-t.invariant.none (sym c.wins.ensures.answer ∙ c.if-wins.true) c.loop-t-test.true

pub returns-clause-value : goal.returns-clause-value
unfolding first_target
returns-clause-value c = first-end _ _ _ c.loop-t.invariant.none (omega arith)
