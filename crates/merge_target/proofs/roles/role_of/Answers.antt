-- The cases of a role. Assumes nothing.
use Rattle.std.proofs.Common.{arith, sym, ◌∙◌}
use Rattle.merge_choice.specs.Named.{role-common, role_user, role-dynamic}
use Rattle.merge_target.proofs.roles.role_of.Goals as goal

pub returns-in-8 : goal.returns-in-8
returns-in-8 c = role-common _ c.requires (sym c.has_bit.ensures ∙ c.if-not-has_bit.false) c.in-8.is

pub returns-in_default : goal.returns-in_default
returns-in_default c = role_user _ c.requires (sym c.has_bit.ensures ∙ c.if-not-has_bit.false) (λ e. omega arith) c.if-classes-kind-eq1.true

pub returns-in_default-2 : goal.returns-in_default-2
returns-in_default-2 c = role-dynamic _ c.requires (sym c.has_bit.ensures ∙ c.if-not-has_bit.false) (λ e. omega arith) c.if-classes-kind-eq1.false
