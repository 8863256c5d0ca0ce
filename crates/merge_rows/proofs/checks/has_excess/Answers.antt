-- Every number is below a bound that is none of 32 bits. Assumes nothing.
use Rattle.std.proofs.Common.{sym, ap, ◌∙◌, false, arith}
use Rattle.merge_state.specs.Table.{any_misfit}
use Rattle.merge_rows.proofs.Laws.{all_fit, excess_is}
use Rattle.merge_rows.proofs.checks.has_excess.Goals as goal

pub returns-in-Ok : goal.returns-in-Ok
returns-in-Ok c = excess_is _ _ c.all_below.ensures ∙ ap (λ t. any_misfit t false c.args.l.now) c.in-Ok.ensures.1

pub returns-in-Err : goal.returns-in-Err
returns-in-Err c = sym (all_fit _ _ (λ i b. omega (arith, c.in-Err.ensures, c.type_inv.l i)))
