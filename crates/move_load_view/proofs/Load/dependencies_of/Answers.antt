-- The part that is lent is the atom's part. Assumes nothing.
use Rattle.std.proofs.Common.{◌+◌}
use Rattle.layout.specs.Lent.{mid_part}
use Rattle.move_ledger.specs.Graph.{at}
use Rattle.move_load_view.proofs.Load.dependencies_of.Goals as goal

pub returns : goal.returns
returns c =
    let starts = c.args.self.now.starts.now in
    mid_part (at starts c.args.atom) (at starts (c.args.atom + 1)) c.args.self.now.dependencies.now c.requires.rising c.requires.within
