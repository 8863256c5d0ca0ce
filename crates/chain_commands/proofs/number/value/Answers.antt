-- One more digit, or none. Assumes nothing.
use Rattle.std.proofs.Common.{◌≡◌, sym, ◌∙◌, arith, Some, None, get_or}
use Rattle.chain_commands.specs.Parse.{more}
use Rattle.chain_commands.proofs.Reading.{value-more, value-stops, value-done}
use Rattle.chain_commands.proofs.number.value.Goals as goal

pub returns-in_err-v : goal.returns-in_err-v
returns-in_err-v c =
    let none : more (Some c.loop-b.v) (get_or c.args.text.now c.loop-b.b-index 0) ≡ None = sym c.more.ensures ∙ c.in_err-v.was in
    c.from_residual.ensures ∙ value-stops _ _ _ c.loop-b-test.true c.loop-b.invariant none

pub loop-b-preserved : goal.loop-b-preserved
loop-b-preserved c =
    let some : more (Some c.loop-b.v) (get_or c.args.text.now c.loop-b.b-index 0) ≡ Some c.in_ok-v.v = sym c.more.ensures ∙ c.in_ok-v.was in
    rw some at (value-more _ _ _ c.loop-b-test.true c.loop-b.invariant)

pub returns : goal.returns
returns c = value-done c.args.text.now (Some c.loop-b.v) c.loop-b.b-index (omega arith) c.loop-b.invariant
