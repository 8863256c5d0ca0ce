-- The roles of the chunks passed so far stand in the table. Assumes nothing.
use Rattle.std.proofs.Common.{replicate}
use Rattle.entry_set.specs.Sets.{number}
use Rattle.merge_choice.specs.Named.{Named}
use Rattle.merge_target.specs.Roles.{numbers}
use Rattle.merge_target.proofs.roles.table.Given as goal

abbrev pub invariant-loop-b : goal.invariant-loop-b
invariant-loop-b l = Named l.classes l.kinds (number l.set) (replicate 1024 0) (numbers l.roles) l.b
