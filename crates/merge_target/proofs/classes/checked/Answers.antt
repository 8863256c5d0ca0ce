-- Not eight, or one of the eight, or none. Assumes nothing.
use Rattle.std.proofs.Common.{sym, ◌∙◌}
use Rattle.merge_target.proofs.Eight.{other_number, strays, is_odd, fits}
use Rattle.merge_target.proofs.classes.checked.Goals.{then-has_misfit-via-then-has_misfit, then-has_misfit-via-else-has_misfit+then-has_odd_fault}
use Rattle.merge_target.proofs.classes.checked.Goals as goal

pub returns-in_err-eight : goal.returns-in_err-eight
returns-in_err-eight c = rw c.from_residual.ensures (other_number _ c.in_err-eight.ensures.cases)

pub returns-then-has_misfit : goal.returns-then-has_misfit
returns-then-has_misfit c =
    let e = c.in_ok-eight.ensures.cases in
    elim c.then-has_misfit.branch [
      | then-has_misfit-via-then-has_misfit w ↦ strays _ e.long (sym (rw e.same at c.has_misfit.ensures) ∙ w.if-has_misfit.true)
      | then-has_misfit-via-else-has_misfit+then-has_odd_fault w ↦ is_odd _ e.long (sym (rw e.same at w.has_odd_fault.ensures) ∙ w.if-has_odd_fault.true)
    ]

pub returns : goal.returns
returns c =
    let e = c.in_ok-eight.ensures.cases in
    (fits _ e.long (sym (rw e.same at c.has_misfit.ensures) ∙ c.if-has_misfit.false) (sym (rw e.same at c.has_odd_fault.ensures) ∙ c.if-has_odd_fault.false), e.same)
