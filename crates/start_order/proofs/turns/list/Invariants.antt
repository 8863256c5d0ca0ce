-- The turns so far. Assumes nothing.
use Rattle.start_order.specs.Running.{Run}
use Rattle.start_order.specs.Steps.{CanList}
use Rattle.start_order.specs.Turns.{Setting}
use Rattle.start_order.proofs.turns.list.Given as goal

abbrev pub invariant-loop-k : goal.invariant-loop-k
invariant-loop-k l =
    (s : Setting) → CanList s l.nodes l.a l.order l.low l.initial.marks l.initial.degrees l.initial.chunks
    → Run s l.nodes.area.n l.nodes.registered l.a l.low l.initial.chunks l.k l.marks l.degrees l.chunks
