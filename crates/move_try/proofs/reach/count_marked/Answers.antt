-- `move_try::reach::count_marked`: the library's sum of ones, as a count of places. Assumes nothing.
use Rattle.std.proofs.Common.{rules, ◌≡◌, ◌∙◌}
use Rattle.std.specs.Prelude.{eqb, count_by}
use Rattle.move_try.proofs.Counting.{count-places}
use Rattle.move_try.proofs.reach.count_marked.Goals as goal

pub returns : goal.returns
returns c = let all : c.sum.result ≡ count_by (λ x. eqb x c.args.mark) c.args.marks.now = search rules in all ∙ count-places (λ x. eqb x c.args.mark) c.args.marks.now
