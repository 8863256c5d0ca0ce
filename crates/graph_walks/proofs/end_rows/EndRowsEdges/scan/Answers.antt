-- Each turn does one more row. Assumes nothing.
use Rattle.graph_walks.proofs.EndLaws.{rows_none, rows_more, end-row_can}
use Rattle.graph_walks.proofs.end_rows.EndRowsEdges.scan.Goals as goal

pub loop-i-init : goal.loop-i-init
loop-i-init c = rows_none _ _ c.args.self.now.lent _ c.requires.ready

pub scan_row-sp-requires : goal.scan_row-sp-requires
scan_row-sp-requires c = end-row_can c.args.self.now.lent c.loop-i.invariant.ready c.requires.node c.loop-i-test.true

pub loop-i-preserved : goal.loop-i-preserved
loop-i-preserved c = rows_more _ _ c.args.self.now.lent c.loop-i.invariant c.scan_row-sp.ensures
