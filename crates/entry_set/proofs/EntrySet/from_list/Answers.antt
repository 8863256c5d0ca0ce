-- `from_list`: a list of at most four numbers, 0 past its end. Assumes nothing.
use Rattle.std.proofs.Common.{rules}
use Rattle.entry_set.specs.SetLaws.{known-holds}
use Rattle.entry_set.proofs.Places.{four_of}
use Rattle.entry_set.proofs.EntrySet.from_list.Goals as goal

pub returns : goal.returns
returns c = known-holds (search rules) (four_of c.args.bits.now c.requires (search rules) (search rules) (search rules) (search rules))
