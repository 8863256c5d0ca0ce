-- Each turn looks at one more flag. Assumes nothing.
use mathlib.Core.Path.{refl}
use Rattle.graph_walks.proofs.Layer.{scan_none}
use Rattle.graph_walks.proofs.Ends.{offers_rows, flag_can, flag-more}
use Rattle.graph_walks.proofs.FlagRowsEdges.scan.Goals as goal

pub loop-y-init : goal.loop-y-init
loop-y-init c = scan_none (offers_rows _ _ _) c.requires.ready

pub look_where-sp-requires : goal.look_where-sp-requires
look_where-sp-requires c = flag_can c.args.self.now.flags.now c.args.self.now.stride c.requires.node c.loop-y.invariant c.loop-y-test.true

pub loop-y-preserved : goal.loop-y-preserved
loop-y-preserved c = flag-more c.args.self.now.flags.now c.args.self.now.stride c.requires.node c.loop-y.invariant c.loop-y-test.true _ refl c.look_where-sp.ensures
