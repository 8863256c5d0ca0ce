-- `move_edges::rows::count_below` meets its contract. Assumes nothing.
use Rattle.std.proofs.Common.{arith, sym, ap, ◌∙◌}
use Rattle.graphs.specs.Count.{ind, count_none, count-more}
use Rattle.move_edges.proofs.Counting.{told, byte_le}
use Rattle.move_edges.proofs.rows.count_below.Goals as goal

pub loop-k-init : goal.loop-k-init
loop-k-init g c = (omega arith, λ test tells. sym (count_none test))

pub loop-k-preserved : goal.loop-k-preserved
loop-k-preserved g c = (
  omega (arith, c.loop-k.invariant.0, c.from-found.ensures, byte_le c.passes.result),
  λ test tells. omega (arith, c.loop-k.invariant.1 test tells, c.from-found.ensures ∙ told _ ∙ ap ind (tells _ _ c.passes.ensures), count-more test c.loop-k.k),
)
