-- The sources that pass are those of atoms below i. Assumes nothing.
use Rattle.std.proofs.Common.{◌≡◌, ◌∙◌, ltb, rules}
use Rattle.std.specs.List.{count_by}
use Rattle.moves_load_commands.proofs.Lists.{start-counted}
use Rattle.moves_load_commands.proofs.start.Goals as goal

pub returns-clause-value : goal.returns-clause-value
returns-clause-value c =
    let e : c.count.result ≡ count_by (λ x. ltb x c.args.i) c.args.sources.now = search rules in
    e ∙ start-counted c.args.sources.now c.args.i
