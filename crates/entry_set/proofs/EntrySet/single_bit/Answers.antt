-- `single_bit`: one bit in all, in the first number that isn't 0. Assumes nothing.
use Rattle.std.proofs.Common.{rules, arith, ◌≡◌, ◌≢◌, ◌∙◌, sym, tests}
use Rattle.std.proofs.lemmas.Iterator.{IsFirst-from_position, YieldsList-from_slice}
use Rattle.entry_set.specs.Sets.{numbers}
use Rattle.entry_set.specs.SetLaws.{known}
use Rattle.entry_set.proofs.Ones.{lone_bit, not_lone, some_four}
use Rattle.entry_set.proofs.EntrySet.single_bit.Goals as goal

pub returns-then-bit_count-ne1-clause-bit : goal.returns-then-bit_count-ne1-clause-bit
returns-then-bit_count-ne1-clause-bit c = sym (not_lone _ (λ e. c.if-bit_count-ne1.true (c.bit_count.ensures ∙ e)))

pub returns-in_err-i-clause-bit : goal.returns-in_err-i-clause-bit
returns-in_err-i-clause-bit c =
    let s = c.args.self in
    let found = IsFirst-from_position _ _ _ (λ x. x ≢ 0) (λ x. x ≡ 0) c.position.ensures.ran (YieldsList-from_slice (numbers s) cc) (λ x q k. search (rules, tests)) (λ x q k. search (rules, tests)) in
    let none = rw c.in_err-i.was at found in
    absurd (some_four s (known s (search rules)) (sym c.bit_count.ensures ∙ c.if-bit_count-ne1.false) (none 0 0 (omega arith) (omega arith)) (none 1 0 (omega arith) (omega arith)) (none 2 0 (omega arith) (omega arith)) (none 3 0 (omega arith) (omega arith)))

pub returns-clause-bit : goal.returns-clause-bit
returns-clause-bit c =
    let s = c.args.self in
    let found = IsFirst-from_position _ _ _ (λ x. x ≢ 0) (λ x. x ≡ 0) c.position.ensures.ran (YieldsList-from_slice (numbers s) cc) (λ x q k. search (rules, tests)) (λ x q k. search (rules, tests)) in
    let first = rw c.in_ok-i.was at found in
    sym (lone_bit (numbers s) (known s (search rules)) (sym c.bit_count.ensures ∙ c.if-bit_count-ne1.false) c.in_ok-i.i first.0 (first.1 0))
