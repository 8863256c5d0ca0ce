-- Each turn takes the node on top and scans it. Assumes nothing.
use mathlib.Core.Path.{◌≡◌}
use native.Mathlib.Omega.{arith}
use Rattle.graph_walks.proofs.Layer.{done_none, done_more, top_node, top_ready, scan_less}
use Rattle.graph_walks.proofs.spread_over.Goals as goal

pub loop-sp-init : goal.loop-sp-init
loop-sp-init g c = done_none c.requires.offers c.requires.ready

pub scan-sp-requires : goal.scan-sp-requires
scan-sp-requires g c = record { ready = top_ready c.requires.offers c.loop-sp.invariant (omega arith); node = top_node c.requires.offers c.loop-sp.invariant (omega arith) }

pub loop-sp-smaller : goal.loop-sp-smaller
loop-sp-smaller g c = scan_less ((g.E.Edges.reads c.args.edges.now).nodes) c.args.mark c.loop-sp.marks c.loop-sp.sp _ (omega arith) c.scan-sp.ensures.less

pub loop-sp-preserved : goal.loop-sp-preserved
loop-sp-preserved g c = done_more c.requires.offers c.loop-sp.invariant (omega arith) c.scan-sp.ensures

pub returns : goal.returns
returns g c = let z : c.loop-sp.sp ≡ 0 = omega arith in rw z at c.loop-sp.invariant
