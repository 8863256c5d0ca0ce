-- `move_fixed::keeps` meets its contract. Assumes nothing.
use Rattle.std.proofs.Common.{arith, ◌∙◌, sym}
use Rattle.move_fixed.proofs.Flagging.{told_none, told_more, keeps_yes, keeps_no}
use Rattle.move_fixed.proofs.keeps.Goals as goal

pub loop-atom-init : goal.loop-atom-init
loop-atom-init c = told_none

pub returns-then-area-from : goal.returns-then-area-from
returns-then-area-from c = keeps_no c.args.fixed.now c.args.area.now.n c.args.area.now.numbers.now c.loop-atom.atom c.loop-atom-test.true (λ e. c.if-area-from.true (e ∙ sym c.from.ensures))

pub loop-atom-preserved : goal.loop-atom-preserved
loop-atom-preserved c = told_more c.loop-atom.invariant (c.if-area-from.false ∙ c.from.ensures)

pub returns : goal.returns
returns c = keeps_yes _ (omega arith) c.loop-atom.invariant
