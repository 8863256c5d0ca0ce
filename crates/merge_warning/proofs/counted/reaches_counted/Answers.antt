-- What one end depends on, closed, is what it reaches. Assumes nothing.
use Rattle.std.proofs.Common.{◌∙◌, arith, get_or}
use Rattle.graphs.specs.Tab.{zeros}
use Rattle.graph_walks.specs.Closed.{closed}
use Rattle.graph_walks.specs.Ends.{end_edge}
use Rattle.merge_warning.specs.Hits.{marked-yes}
use Rattle.merge_warning.specs.EndHits.{reach-marks}
use Rattle.merge_warning.proofs.Closing.{unmarked}
use Rattle.merge_warning.proofs.counted.reaches_counted.Goals as goal

pub closure_ends-requires : goal.closure_ends-requires
closure_ends-requires c = unmarked c.requires

pub returns : goal.returns
returns c =
    let r = c.args.rows.now in
    let x = get_or r.ends.now r.source 0 in
    let y = get_or r.ends.now r.target 0 in
    marked-yes (closed (end_edge r.flags.now r.stride r.count r.ends.now x x) r.count x x) _ _ r.count (λ x h. zeros 1024 x) (omega (arith, c.requires)) c.closure_ends.ensures y (r.lent.each _ r.second)
    ∙ reach-marks r.flags.now r.stride r.count r.ends.now r.lent.each x y
