-- `move_loading::start::write_numbers`: the part that is back is a patch. Assumes nothing.
use Rattle.std.proofs.Common.{arith, rules}
use Rattle.move_loading.proofs.Tabbing.{tabbed}
use Rattle.move_loading.proofs.start.write_numbers.Goals as goal

pub returns : goal.returns
returns c = tabbed (λ i. i) c.args.area.now c.args.at c.args.count c.loop-i.numbers c.requires.0 (search rules) (λ i h. c.loop-i.invariant i (omega arith))
