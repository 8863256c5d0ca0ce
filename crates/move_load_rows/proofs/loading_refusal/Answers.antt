-- `move_load_rows::loading_refusal` meets its contract. Assumes nothing.
use Rattle.std.proofs.lemmas.Result.{err_from_is_err_and}
use Rattle.move_load_rows.proofs.SetLaws.{loading-early, loading-late, loading_can}
use Rattle.move_load_rows.proofs.loading_refusal.Goals as goal

pub returns-in_err-refusal : goal.returns-in_err-refusal
returns-in_err-refusal c =
    let p = err_from_is_err_and c.from_residual.result c.from_residual.ensures.1 in
    rw (p.1, p.2) (loading-early _ _ _ _ _ c.lists_fit.ensures _ c.in_err-refusal.ensures)

pub sets_refusal-requires : goal.sets_refusal-requires
sets_refusal-requires c = loading_can _ c.args.fixed.now _ _ _ c.lists_fit.ensures c.in_ok-refusal.ensures

pub returns : goal.returns
returns c = loading-late _ _ _ _ _ c.lists_fit.ensures c.in_ok-refusal.ensures c.sets_refusal.ensures
