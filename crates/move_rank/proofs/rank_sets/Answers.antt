-- The first atom whose sets differ decides. Assumes nothing.
use Rattle.std.proofs.Common.{ap, ◌∙◌}
use Rattle.entry_set.specs.Compared.{order_held}
use Rattle.move_rank.specs.Atoms.{ranked_equal, ranked_apart}
use Rattle.move_rank.specs.Ranking.{of_ranked}
use Rattle.move_rank.specs.RankLaws.{by_ordering}
use Rattle.move_rank.proofs.rank_sets.Goals as goal

pub returns-in-Some : goal.returns-in-Some
returns-in-Some c = λ p q P Q. ap of_ranked (order_held c.set_of-x.ensures c.set_of-y.ensures c.cmp.ensures) ∙ by_ordering _ _ ∙ ranked_apart P Q c.in-Some.ensures

pub returns-in-None : goal.returns-in-None
returns-in-None c = λ p q P Q. ranked_equal P Q c.in-None.ensures
