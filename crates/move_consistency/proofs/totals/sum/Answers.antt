-- `move_consistency::totals::sum`: the library's sum, as a sum over places. Assumes nothing.
use Rattle.std.proofs.Common.{rules, ◌≡◌, ◌∙◌}
use Rattle.std.specs.Prelude.{sum}
use Rattle.move_consistency.proofs.Summing.{sum-total}
use Rattle.move_consistency.proofs.totals.sum.Goals as goal

pub returns : goal.returns
returns c = let all : c.sum.result ≡ sum c.args.degrees.now = search rules in all ∙ sum-total c.args.degrees.now
