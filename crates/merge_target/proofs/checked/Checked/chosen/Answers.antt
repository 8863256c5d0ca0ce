-- A common chunk first, then a user entry. Assumes nothing.
use Rattle.std.proofs.Common.{arith, ◌≡◌, ◌∙◌, sym, eqb}
use Rattle.std.specs.List.{list_any}
use Rattle.std.proofs.lemmas.Grind.{common_steps}
use Rattle.merge_choice.specs.Choice.{chosen}
use Rattle.merge_target.specs.Roles.{role_number}
use Rattle.merge_target.proofs.Choosing.{has_role}
use Rattle.merge_target.proofs.checked.Checked.chosen.Goals as goal

pub returns-then-contains-clause-value : goal.returns-then-contains-clause-value
unfolding chosen
returns-then-contains-clause-value c =
    let s = c.args in
    let p : c.contains.result ≡ list_any (λ r. eqb (role_number r) 3) s.self.now.roles.now = grind (arith, common_steps) in
    rw (sym (has_role s.self.now.roles.now s.self.now.bundle.now.chunks 3 c.args.self.now.roled.count p) ∙ c.if-contains.true)

pub returns-then-contains-2-clause-value : goal.returns-then-contains-2-clause-value
unfolding chosen
returns-then-contains-2-clause-value c =
    let s = c.args in
    let p : c.contains.result ≡ list_any (λ r. eqb (role_number r) 3) s.self.now.roles.now = grind (arith, common_steps) in
    let q : c.contains-2.result ≡ list_any (λ r. eqb (role_number r) 2) s.self.now.roles.now = grind (arith, common_steps) in
    rw (
      sym (has_role s.self.now.roles.now s.self.now.bundle.now.chunks 3 c.args.self.now.roled.count p) ∙ c.if-contains.false,
      sym (has_role s.self.now.roles.now s.self.now.bundle.now.chunks 2 c.args.self.now.roled.count q) ∙ c.if-contains-2.true,
    )
    c.user_target.ensures.value

pub returns-clause-value : goal.returns-clause-value
unfolding chosen
returns-clause-value c =
    let s = c.args in
    let p : c.contains.result ≡ list_any (λ r. eqb (role_number r) 3) s.self.now.roles.now = grind (arith, common_steps) in
    let q : c.contains-2.result ≡ list_any (λ r. eqb (role_number r) 2) s.self.now.roles.now = grind (arith, common_steps) in
    rw (
      sym (has_role s.self.now.roles.now s.self.now.bundle.now.chunks 3 c.args.self.now.roled.count p) ∙ c.if-contains.false,
      sym (has_role s.self.now.roles.now s.self.now.bundle.now.chunks 2 c.args.self.now.roled.count q) ∙ c.if-contains-2.false,
    )
    c.dynamic_target.ensures.value
