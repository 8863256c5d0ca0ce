-- `move_load_rows::falls` meets its contract. Assumes nothing.
use Rattle.std.proofs.Common.{rules}
use Rattle.move_load_rows.proofs.Searching.{sorted_is}
use Rattle.move_load_rows.proofs.falls.Goals as goal

pub returns : goal.returns
returns c = sorted_is c.args.load.now.starts.now c.args.load.now.atoms _ c.requires (search rules)
