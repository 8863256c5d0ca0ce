-- `move_edges::fill` meets its contract. Assumes nothing.
use Rattle.std.proofs.Common.{arith, rules, ap, sym, ◌∙◌}
use Rattle.graphs.specs.Count.{ind}
use Rattle.move_edges.proofs.Following.{grown_none, fill_can, fill_more, fill_done}
use Rattle.move_edges.proofs.Counting.{told, byte_le, fill_none, fill_tally}
use Rattle.move_edges.proofs.fill.Goals as goal

pub loop-k-init : goal.loop-k-init
loop-k-init c = record { steps = grown_none; told = sym (fill_none c.requires (search rules)); few = omega arith }

pub add-requires : goal.add-requires
add-requires c = fill_can c.requires (search rules) c.loop-k.invariant.steps c.loop-k-test.true

pub loop-k-preserved : goal.loop-k-preserved
loop-k-preserved c =
    let v = c.loop-k.invariant in
    record {
      steps = fill_more c.requires (search rules) v.steps c.loop-k-test.true c.add.ensures.edges_after;
      told = fill_tally c.requires (search rules) v.steps c.loop-k-test.true c.add.ensures.edges_after c.loop-k.found (c.from-found.ensures ∙ told c.add.result ∙ ap ind c.add.ensures.value) v.told;
      few = omega (arith, v.few, c.from-found.ensures, byte_le);
    }

pub returns-clause-edges_after : goal.returns-clause-edges_after
returns-clause-edges_after c = fill_done c.requires (search rules) c.loop-k.invariant.steps (omega arith)
