-- `move_edges::gain_all` meets its contract. Assumes nothing.
use Rattle.std.proofs.Common.{arith, ap, ◌∙◌}
use Rattle.graphs.specs.Count.{ind}
use Rattle.move_edges.proofs.Following.{grown_none, gain_can, gain_more}
use Rattle.move_edges.proofs.Counting.{told, byte_le, gain_tally}
use Rattle.move_edges.proofs.gain_all.Goals as goal

pub loop-k-init : goal.loop-k-init
loop-k-init c = record { steps = grown_none; told = omega arith; few = omega arith }

pub gain-requires : goal.gain-requires
gain-requires c = gain_can c.requires c.loop-k.invariant.steps c.loop-k-test.true

pub loop-k-preserved : goal.loop-k-preserved
loop-k-preserved c =
    let v = c.loop-k.invariant in
    record {
      steps = gain_more c.requires v.steps c.loop-k-test.true c.gain.ensures.edges_after;
      told = gain_tally c.requires v.steps c.loop-k-test.true c.gain.ensures.edges_after c.loop-k.found (c.from-found.ensures ∙ told c.gain.result ∙ ap ind c.gain.ensures.value) v.told;
      few = omega (arith, v.few, c.from-found.ensures, byte_le);
    }
