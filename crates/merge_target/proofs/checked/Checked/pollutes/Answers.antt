-- The marks are those of the dynamic entries. Assumes nothing.
use Rattle.std.proofs.Common.{◌∙◌}
use Rattle.graphs.specs.Tab.{zeros}
use Rattle.merge_choice.specs.Guards.{polluted_is}
use Rattle.merge_target.specs.Roles.{numbers}
use Rattle.merge_target.proofs.Tables.{polluting_modules}
use Rattle.merge_target.proofs.checked.Checked.pollutes.Goals as goal

pub returns : goal.returns
returns c =
    let s = c.args in
    let b = s.self.now.bundle.now in
    let modules = s.self.now.candidate.now.modules.now in
    polluted_is _ (numbers s.self.now.roles.now) b.entries.now b.exports.now modules s.t (zeros 4096) c.mark_entries.ensures
    (c.some_polluting.ensures ∙ polluting_modules modules b.exports.now _ _)
