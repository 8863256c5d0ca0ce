-- What stands before a last newline is read as the number. Assumes nothing.
use Rattle.std.proofs.Common.{◌≡◌, rules, tests, arith}
use Rattle.chain_commands.specs.Asked as def
use Rattle.chain_commands.specs.Parse.{up_to}
use Rattle.chain_commands.proofs.Reading.{asked-empty, asked_low, asked_right, asked_bounds}
use Rattle.chain_commands.proofs.number.asked.Goals as goal
use Rattle.chain_commands.proofs.number.asked.Goals.{After-filter}

found : (c : After-filter) → c.filter.result ≡ def.asked c.args.input.now
found c =
    let f : c.filter.result ≡ up_to 512 c.value.result = search (rules, tests) in
    asked_right c.args.input.now c.before_newline-text.ensures.value c.in-Some.ensures.value (omega arith) (rw c.value.ensures at f)

pub returns-in-Some-clause-value : goal.returns-in-Some-clause-value
returns-in-Some-clause-value c = found (goal.at.returns-in-Some-clause-value c).After-filter

pub returns-in-Some-clause-upper_bound : goal.returns-in-Some-clause-upper_bound
returns-in-Some-clause-upper_bound c = asked_bounds c.args.input.now (found (goal.at.returns-in-Some-clause-upper_bound c).After-filter)

pub returns-in_default-clause-value : goal.returns-in_default-clause-value
returns-in_default-clause-value c = asked_low c.args.input.now c.before_newline-text.ensures.value c.in-Some.ensures.value (omega arith)

pub returns-in_default-2-clause-value : goal.returns-in_default-2-clause-value
returns-in_default-2-clause-value c = asked-empty c.args.input.now c.before_newline-text.ensures.value (rw c.in_default.is at c.first.ensures.value)
