-- All numbers of the part are counted, as the definition does place by place. Assumes nothing.
use Rattle.std.proofs.Common.{◌+◌, ◌∙◌, ap, arith, count_by, get_or}
use Rattle.std.proofs.lemmas.List.{take_all}
use Rattle.std.specs.List.{between}
use Rattle.graphs.specs.Count.{count_le}
use Rattle.merge_state.specs.State.{misfit}
use Rattle.merge_area.specs.Consistent.{faults}
use Rattle.merge_area.proofs.Counting.{count_part}
use Rattle.merge_area.proofs.count_faults.Goals as goal

pub returns : goal.returns
unfolding faults
returns c =
    let p = misfit c.args.top c.args.free in
    let part = between c.args.at (c.args.at + c.args.n) c.args.list.now in
    let v = c.loop-number.invariant ∙ ap (count_by p) (take_all c.loop-number.number-index part c.loop-number-test.false) ∙ count_part p c.args.list.now c.args.at c.args.n c.requires in
    record { value = v; few = omega (arith, v, count_le (λ i. p (get_or c.args.list.now (c.args.at + i) 0)) c.args.n) }
