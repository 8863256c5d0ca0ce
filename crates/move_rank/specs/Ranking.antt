-- The call that ranks two areas of one load and one N. Assumes nothing.
use Rattle.std.specs.Prelude.{ℕ, List}
use Rattle.move_ledger.specs.Graph.{Load}
use Rattle.move_ledger.specs.Answer.{Answer, number}
use Rattle.move_area.specs.Calls.{checked}
use Rattle.move_questions.specs.Answers.{place_in}
use Rattle.move_rank.specs.Rank.{Rank, before, equal, after, rank}
use Rattle.std.specs.declared.cmp.Ordering.{Ordering}
use Rattle.std.specs.declared.cmp.Ordering.TheVariants.{Less, Equal, Greater}

-- what the code answers
abbrev pub of_ranked : Ordering → Rank
of_ranked Less = before
of_ranked Equal = equal
of_ranked Greater = after

-- before, equal and after as an answer, by a number each
abbrev pub told : Rank → Answer
told before = number 0
told equal = number 1
told after = number 2

-- one load and one N serve both areas; the rows of a later call (1 to 6 and 9) are tried for the first, then for the second
unfoldable pub ranking : Load → List ℕ → ℕ → List ℕ → List ℕ → Answer
ranking load fixed N first second =
    checked load fixed N first (checked load fixed N second (told (rank load (place_in load N first) (place_in load N second))))
