-- The first entry that wins, unless it is polluted. Assumes nothing.
use Rattle.std.proofs.Common.{arith, refl}
use Rattle.merge_choice.proofs.Chosen.{dynamic-none, dynamic-polluted, dynamic-found}
use Rattle.merge_target.specs.Roles.{numbers}
use Rattle.merge_target.proofs.checked.Checked.dynamic_target.Goals as goal

pub returns-in_err-t-clause-value : goal.returns-in_err-t-clause-value
returns-in_err-t-clause-value c = let s = c.args in rw c.from_residual.ensures (dynamic-none (numbers s.self.now.roles.now) _ _ _ _ _ c.args.self.now.roled.count c.in_err-t.ensures.value refl)

pub returns-then-pollutes-clause-value : goal.returns-then-pollutes-clause-value
returns-then-pollutes-clause-value c =
    let s = c.args in
    dynamic-polluted (numbers s.self.now.roles.now) _ _ _ _ _ c.args.self.now.roled.count c.in_ok-t.ensures.value (λ z. omega (arith, c.in_ok-t.ensures.below)) c.pollutes.ensures c.if-pollutes.true

pub returns-clause-value : goal.returns-clause-value
returns-clause-value c =
    let s = c.args in
    dynamic-found (numbers s.self.now.roles.now) _ _ _ _ _ c.args.self.now.roled.count c.in_ok-t.ensures.value (λ z. omega (arith, c.in_ok-t.ensures.below)) c.pollutes.ensures c.if-pollutes.false
