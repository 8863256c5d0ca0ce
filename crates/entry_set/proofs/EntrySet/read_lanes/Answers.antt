-- `read_lanes`: four pairs of numbers of 32 bits. Assumes nothing.
use Rattle.std.proofs.Common.{rules}
use Rattle.entry_set.specs.SetLaws.{known-holds}
use Rattle.entry_set.proofs.Places.{pairs}
use Rattle.entry_set.proofs.EntrySet.read_lanes.Goals as goal

pub returns : goal.returns
returns c =
    let s = c.args in
    known-holds (search rules) (pairs s.area.now s.at s.stride (search rules) (search rules) (search rules) (search rules))
