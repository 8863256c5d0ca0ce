-- No chunk passed so far wins. Assumes nothing.
use Rattle.std.specs.Prelude.{length}
use Rattle.merge_choice.specs.Search.{Searching}
use Rattle.merge_target.specs.Roles.{role_number, numbers}
use Rattle.merge_target.proofs.checked.Checked.first_target.Given as goal

abbrev pub invariant-loop-t : goal.invariant-loop-t
invariant-loop-t l = Searching (length l.self.roles.now) (numbers l.self.roles.now) (role_number l.v) l.self.bundle.now.entries.now l.self.bundle.now.importers.starts.now l.self.bundle.now.importers.items.now l.marks l.t
