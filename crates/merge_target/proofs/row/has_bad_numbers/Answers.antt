-- The last test is the definition's. Assumes nothing.
use Rattle.std.proofs.Common.{rules}
use Rattle.merge_choice.specs.Find.{bad_numbers}
use Rattle.merge_target.proofs.Any.{bad_entries}
use Rattle.merge_target.proofs.row.has_bad_numbers.Goals as goal

pub returns-else-has_misfit-2 : goal.returns-else-has_misfit-2
unfolding bad_numbers
returns-else-has_misfit-2 c = rw (← bad_entries c.args.bundle.now.kinds.now c.args.bundle.now.entries.now c.args.bundle.now.modules c.requires) (search rules)
