-- Another chunk is looked for only where t has side effects. Assumes nothing.
use Rattle.std.proofs.Common.{◌∙◌, ap, not, eq-eqb}
use Rattle.merge_choice.specs.Guards.{no_leak, leak_is}
use Rattle.merge_target.specs.Lent.{lists_of}
use Rattle.merge_target.specs.Roles.{numbers}
use Rattle.merge_target.proofs.Tables.{other_reaching}
use Rattle.merge_target.proofs.checked.Checked.leaks.Goals as goal

pub returns-then-self-t-ne0 : goal.returns-then-self-t-ne0
returns-then-self-t-ne0 c =
    let s = c.args in
    let l = lists_of s.self.now.bundle.now.reached in
    leak_is (numbers s.self.now.roles.now) l.starts l.items s.self.now.bundle.now.effects.now _ s.self.now.bundle.now.chunks s.t c.if-self-t-ne0.true
    (c.some_other_reaches.ensures ∙ other_reaching s.self.now.roles.now l s.t s.self.now.bundle.now.chunks c.args.self.now.sound.reached.each)

pub returns-else-self-t-ne0 : goal.returns-else-self-t-ne0
returns-else-self-t-ne0 c =
    let s = c.args in
    let l = lists_of s.self.now.bundle.now.reached in
    ap not (eq-eqb _ 0 c.if-self-t-ne0.false) ∙ no_leak (numbers s.self.now.roles.now) l.starts l.items s.self.now.bundle.now.effects.now _ s.self.now.bundle.now.chunks s.t c.if-self-t-ne0.false
