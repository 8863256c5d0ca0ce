-- Equal sets are those of one number. Assumes nothing.
use Rattle.std.proofs.Common.{sym, ◌∙◌, refl}
use Rattle.std.proofs.lemmas.Bool.{not-true}
use Rattle.entry_set.specs.Compared.{equal_held}
use Rattle.move_rank.specs.Atoms.{differ_here}
use Rattle.move_rank.proofs.first_difference.Goals as goal

pub returns-then-ne : goal.returns-then-ne
returns-then-ne c =
    differ_here c.loop-i.invariant refl refl c.loop-i-test.true
    (sym (equal_held c.set_of.ensures c.set_of-in-loop-i.ensures refl) ∙ not-true _ (sym c.ne.ensures ∙ c.if-ne.true))
