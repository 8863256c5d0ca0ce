-- Each turn looks at one more place of the row. Assumes nothing.
use Rattle.graph_walks.proofs.Layer.{look_can}
use Rattle.graph_walks.proofs.EndLaws.{swept_none, swept_more, swept_off}
use Rattle.graph_walks.proofs.end_rows.EndRows.scan_row.Goals as goal

pub returns-then-self-i : goal.returns-then-self-i
returns-then-self-i c = swept_off _ _ c.args.self.now.lent _ _ c.requires.ready c.requires.row c.if-self-i.true

pub loop-j-init : goal.loop-j-init
loop-j-init c = swept_none _ _ c.args.self.now.lent _ _ c.requires.ready

pub look_end-sp-requires : goal.look_end-sp-requires
look_end-sp-requires c = look_can c.loop-j.invariant.ready (c.args.self.now.lent.each _ c.loop-j-test.true)

pub loop-j-preserved : goal.loop-j-preserved
loop-j-preserved c =
    swept_more _ _ c.args.self.now.lent c.loop-j.invariant c.requires.node c.requires.row c.loop-j-test.true c.if-self-i.false c.look_end-sp.ensures
