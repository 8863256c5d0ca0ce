-- The lists that are lent are those that the interpreter holds. Assumes nothing.
use Rattle.std.proofs.Common.{rules}
use Rattle.moves_commands.proofs.Feeds.{fed_held}
use Rattle.moves_commands.proofs.Interpreter.feed.Goals as goal

pub returns-clause-fed_as : goal.returns-clause-fed_as
returns-clause-fed_as c =
    let same = c.feed-fed.ensures.same in
    let sets = same.sets in
    let sources = same.sources in
    let dependencies = same.dependencies in
    let hosts = same.hosts in
    fed_held (search rules) c.feed-fed.ensures.fed_to
