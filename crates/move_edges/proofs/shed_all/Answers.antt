-- `move_edges::shed_all` meets its contract. Assumes nothing.
use Rattle.std.proofs.Common.{arith, ap, ◌∙◌}
use Rattle.graphs.specs.Count.{ind}
use Rattle.move_edges.proofs.Following.{fallen_none, shed_can, shed_more}
use Rattle.move_edges.proofs.Counting.{told, byte_le, shed_tally}
use Rattle.move_edges.proofs.shed_all.Goals as goal

pub loop-k-init : goal.loop-k-init
loop-k-init c = record { steps = fallen_none; told = omega arith; few = omega arith }

pub shed-requires : goal.shed-requires
shed-requires c = shed_can c.requires c.loop-k.invariant.steps c.loop-k-test.true

pub loop-k-preserved : goal.loop-k-preserved
loop-k-preserved c =
    let v = c.loop-k.invariant in
    record {
      steps = shed_more c.requires v.steps c.loop-k-test.true c.shed.ensures.edges_after;
      told = shed_tally c.requires v.steps c.loop-k-test.true c.shed.ensures.edges_after c.loop-k.found (c.from-found.ensures ∙ told c.shed.result ∙ ap ind c.shed.ensures.value) v.told;
      few = omega (arith, v.few, c.from-found.ensures, byte_le);
    }
