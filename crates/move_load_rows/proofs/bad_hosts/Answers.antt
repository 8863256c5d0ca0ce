-- `move_load_rows::bad_hosts` meets its contract. Assumes nothing.
use Rattle.std.proofs.Common.{rules, ◌∙◌, ap}
use Rattle.move_ledger.specs.Loading.{row6}
use Rattle.graphs.specs.Lists.{some_below}
use Rattle.move_ledger.specs.Graph.{at}
use Rattle.move_load_rows.specs.Checks.{no_host}
use Rattle.move_load_rows.proofs.Searching.{any_is}
use Rattle.move_load_rows.proofs.bad_hosts.Goals as goal

pub returns : goal.returns
unfolding row6
returns c = any_is (no_host c.args.load.now.atoms) c.args.load.now.hosts.now _ (search rules) ∙ ap (some_below (λ e. no_host c.args.load.now.atoms (at c.args.load.now.hosts.now e))) c.requires
