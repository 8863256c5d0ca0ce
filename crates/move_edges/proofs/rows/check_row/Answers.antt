-- `move_edges::rows::check_row` meets its contract. Assumes nothing.
use Rattle.std.proofs.Common.{length, sym, ◌∙◌}
use borrow.Author.Tests.{eqb-true}
use Rattle.move_edges.proofs.Checking.{row_tally, row-bare, row_compare, row_wipe, row_told, row_clean, row_right, row_wrong}
use Rattle.move_edges.proofs.rows.check_row.Goals as goal

pub returns-then-count_filled-eq0 : goal.returns-then-count_filled-eq0
returns-then-count_filled-eq0 c = record { told = row_right (row-bare c.requires (eqb-true (length c.args.part.now) 0 (sym c.is_empty.ensures ∙ c.if-is_empty.true)) c.count_filled.ensures) c.if-count_filled-eq0.true; clean = c.requires.clean }

pub returns-else-count_filled-eq0 : goal.returns-else-count_filled-eq0
returns-else-count_filled-eq0 c = record { told = row_wrong (row-bare c.requires (eqb-true (length c.args.part.now) 0 (sym c.is_empty.ensures ∙ c.if-is_empty.true)) c.count_filled.ensures) c.if-count_filled-eq0.false; clean = c.requires.clean }

pub tally-found-requires : goal.tally-found-requires
tally-found-requires c = row_tally c.requires

pub compare-unequal-requires : goal.compare-unequal-requires
compare-unequal-requires c = row_compare c.requires c.tally-found.ensures

pub wipe-requires : goal.wipe-requires
wipe-requires c = row_wipe c.requires c.tally-found.ensures

pub returns-then-unequal-eq0 : goal.returns-then-unequal-eq0
returns-then-unequal-eq0 c = record { told = row_right (row_told c.requires c.tally-found.ensures c.compare-unequal.ensures) c.if-unequal-eq0.true; clean = row_clean c.requires c.tally-found.ensures c.wipe.ensures }

pub returns-else-unequal-eq0 : goal.returns-else-unequal-eq0
returns-else-unequal-eq0 c = record { told = row_wrong (row_told c.requires c.tally-found.ensures c.compare-unequal.ensures) c.if-unequal-eq0.false; clean = row_clean c.requires c.tally-found.ensures c.wipe.ensures }
