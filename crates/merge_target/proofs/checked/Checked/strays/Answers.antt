-- The marks are those of t's modules and of the candidate's free ones. Assumes nothing.
use Rattle.std.proofs.Common.{◌∙◌}
use Rattle.graphs.specs.Tab.{zeros}
use Rattle.merge_choice.proofs.Guards.{strayed_is}
use Rattle.merge_target.specs.Lent.{lists_of}
use Rattle.merge_target.proofs.Parts.{marked_list}
use Rattle.merge_target.proofs.Tables.{unmarked_lists}
use Rattle.merge_target.proofs.checked.Checked.strays.Goals as goal

pub returns : goal.returns
returns c =
    let s = c.args in
    let l = lists_of s.self.now.bundle.now.contents in
    let d = lists_of s.self.now.bundle.now.dynamic_importers in
    let modules = s.self.now.candidate.now.modules.now in
    strayed_is l.starts l.items d.starts d.items modules s.t (zeros 4096)
    (marked_list l s.t (c.args.self.now.sound.contents.each s.t c.requires) c.of.ensures c.mark_list.ensures) c.mark_free.ensures
    (c.some_strays.ensures ∙ unmarked_lists modules _ d (λ i e b. c.args.self.now.sound.dynamic_importers.each _ (c.args.self.now.own i e b)))
