-- The first entry that wins, unless a guard bars it. Assumes nothing.
use Rattle.std.proofs.Common.{arith, refl}
use Rattle.merge_choice.specs.Chosen.{user_none, user_unreached, user_leaks, user_strays, user_found}
use Rattle.merge_target.specs.Roles.{numbers}
use Rattle.merge_target.proofs.checked.Checked.user_target.Goals as goal
use Rattle.merge_target.proofs.checked.Checked.user_target.Goals.{then-is_unreached-via-then-is_unreached, then-is_unreached-via-else-is_unreached+then-leaks, then-is_unreached-via-else-is_unreached+else-leaks+then-strays}

pub returns-in_err-t-clause-value : goal.returns-in_err-t-clause-value
returns-in_err-t-clause-value c = let s = c.args in rw c.from_residual.ensures (user_none (numbers s.self.now.roles.now) _ _ _ _ _ _ _ _ c.args.self.now.roled.count c.in_err-t.ensures.value refl)

pub returns-then-is_unreached-clause-value : goal.returns-then-is_unreached-clause-value
returns-then-is_unreached-clause-value c =
    let l = numbers c.args.self.now.roles.now in
    let f = c.in_ok-t.ensures in
    elim c.then-is_unreached.branch [
      | then-is_unreached-via-then-is_unreached w ↦ user_unreached l _ _ _ _ _ _ _ _ c.args.self.now.roled.count f.value (λ z. omega (arith, f.below)) c.is_unreached.ensures w.if-is_unreached.true
      | then-is_unreached-via-else-is_unreached+then-leaks w ↦ user_leaks l _ _ _ _ _ _ _ _ c.args.self.now.roled.count f.value (λ z. omega (arith, f.below)) c.is_unreached.ensures w.if-is_unreached.false w.leaks.ensures w.if-leaks.true
      | then-is_unreached-via-else-is_unreached+else-leaks+then-strays w ↦ user_strays l _ _ _ _ _ _ _ _ c.args.self.now.roled.count f.value (λ z. omega (arith, f.below)) c.is_unreached.ensures w.if-is_unreached.false w.leaks.ensures w.if-leaks.false w.strays.ensures w.if-strays.true
    ]

pub returns-clause-value : goal.returns-clause-value
returns-clause-value c =
    let l = numbers c.args.self.now.roles.now in
    let f = c.in_ok-t.ensures in
    user_found l _ _ _ _ _ _ _ _ c.args.self.now.roled.count f.value (λ z. omega (arith, f.below)) c.is_unreached.ensures c.if-is_unreached.false c.leaks.ensures c.if-leaks.false c.strays.ensures c.if-strays.false
