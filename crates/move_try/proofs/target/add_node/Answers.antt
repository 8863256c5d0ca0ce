-- `move_try::target::add_node` meets its contract. Assumes nothing.
use Rattle.entry_set.specs.Sets.{number}
use Rattle.move_try.specs.Areas.{sets_with, registered_written}
use Rattle.move_try.proofs.target.add_node.Goals as goal

pub returns : goal.returns
returns c =
    let s = c.args in
    rw c.count_with.ensures (registered_written s.n (sets_with s.m s.to) s.to (number s.set) s.area.now c.write_lanes.ensures)
