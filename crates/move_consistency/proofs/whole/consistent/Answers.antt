-- `move_consistency::whole::consistent` meets its contract. Assumes nothing.
use Rattle.std.proofs.Common.{arith}
use Rattle.move_consistency.proofs.Checking.{check_no, check_done}
use Rattle.move_consistency.proofs.whole.consistent.Goals as goal

pub returns-then-not-in_ranges : goal.returns-then-not-in_ranges
returns-then-not-in_ranges c = check_no c.requires c.in_ranges.ensures c.if-not-in_ranges.true

pub returns-then-is_small : goal.returns-then-is_small
returns-then-is_small c = check_done c.requires c.in_ranges.ensures c.if-not-in_ranges.false (λ i. omega (arith, c.type_inv.area i)) c.is_worked.ensures

pub returns : goal.returns
returns c = check_done c.requires c.in_ranges.ensures c.if-not-in_ranges.false (λ i. omega (arith, c.type_inv.area i)) c.is_worked-2.ensures
