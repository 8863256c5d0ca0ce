-- The marks are those of the list of t. Assumes nothing.
use Rattle.std.proofs.Common.{arith, ◌∙◌}
use Rattle.graphs.specs.Tab.{zeros}
use Rattle.merge_choice.specs.Guards.{unreached_is}
use Rattle.merge_target.specs.Lent.{lists_of}
use Rattle.merge_target.specs.Roles.{numbers}
use Rattle.merge_target.proofs.Parts.{marked_list}
use Rattle.merge_target.proofs.Tables.{unmarked_entries}
use Rattle.merge_target.proofs.checked.Checked.is_unreached.Goals as goal

pub returns : goal.returns
returns c =
    let s = c.args in
    let l = lists_of s.self.now.bundle.now.reached in
    unreached_is _ (numbers s.self.now.roles.now) l.starts l.items s.t (zeros 1024) (marked_list l s.t (c.args.self.now.sound.reached.each s.t c.requires) c.of.ensures c.mark_list.ensures)
    (c.some_unmarked_entry.ensures ∙ unmarked_entries s.self.now.roles.now _ (omega (arith, c.mark_list.ensures.long)))
