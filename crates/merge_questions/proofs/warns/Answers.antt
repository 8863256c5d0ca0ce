-- The warning by the flags, or by the ends of merges. Assumes nothing.
use Rattle.std.proofs.Common.{sym, ◌∙◌}
use Rattle.merge_laws.specs.May.{warn-by-flags, warn-by-ends}
use Rattle.merge_questions.proofs.warns.Goals as goal

pub returns-then-is_mode : goal.returns-then-is_mode
returns-then-is_mode c =
    let r = c.end_rows-rows.ensures in
    warn-by-ends _ _ c.requires.0 (sym c.is_mode.ensures ∙ c.if-is_mode.true) r.count r.ends _ _ (rw (r.flags, r.stride, r.source, r.target) at c.warn_counted.ensures)

pub returns-else-is_mode : goal.returns-else-is_mode
returns-else-is_mode c =
    let r = c.flag_rows-rows.ensures in
    warn-by-flags _ _ _ _ c.requires.0 (sym c.is_mode.ensures ∙ c.if-is_mode.false) r.count (rw (r.flags, r.stride) at c.warn.ensures)
