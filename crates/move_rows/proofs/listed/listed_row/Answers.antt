-- Each row, and what is left where none fits. Assumes nothing.
use Rattle.std.proofs.Common.{rules, sym}
use Rattle.std.proofs.lemmas.Result.{err_from_is_err_and}
use Rattle.refusals.specs.Rows.{row_some}
use Rattle.move_load_view.specs.View.{lent_by}
use Rattle.move_rows.specs.Listed.{can_keep, can_check, row_first, row_unkept, row-none, row_nine}
use Rattle.move_rows.proofs.listed.listed_row.Goals as goal

pub returns-in_err-refusal : goal.returns-in_err-refusal
returns-in_err-refusal c =
    let p = err_from_is_err_and c.from_residual.result c.from_residual.ensures.1 in
    rw (p.1, p.2) (row_first c.in_err-refusal.ensures (row_some _))

pub keeps-requires : goal.keeps-requires
keeps-requires c = can_keep (lent_by c.args.load.now) c.args.fixed.now c.args.n c.args.area.now (sym c.in_ok-refusal.ensures)

pub returns-then-not-keeps : goal.returns-then-not-keeps
returns-then-not-keeps c = row_unkept (sym c.in_ok-refusal.ensures) c.keeps.ensures c.if-not-keeps.true

pub consistent-requires : goal.consistent-requires
consistent-requires c = can_check (lent_by c.args.load.now) c.args.fixed.now c.args.n c.args.area.now (sym c.in_ok-refusal.ensures) (search rules)

pub returns-then-consistent : goal.returns-then-consistent
returns-then-consistent c = row-none (sym c.in_ok-refusal.ensures) c.keeps.ensures c.consistent.ensures (search rules) (search rules) c.if-not-keeps.false c.if-consistent.true

pub returns-else-consistent : goal.returns-else-consistent
returns-else-consistent c = row_nine (sym c.in_ok-refusal.ensures) c.keeps.ensures c.consistent.ensures c.if-consistent.false
