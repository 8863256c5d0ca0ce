-- Reaching by the flags, or by the ends of merges. Assumes nothing.
use Rattle.std.proofs.Common.{sym, ◌∙◌, arith}
use Rattle.merge_laws.specs.May.{reach-by-flags, reach-by-ends}
use Rattle.merge_questions.proofs.reaches.Goals as goal

pub returns-then-is_mode : goal.returns-then-is_mode
returns-then-is_mode c =
    let r = c.end_rows-rows.ensures in
    reach-by-ends _ _ c.requires.0 (sym c.is_mode.ensures ∙ c.if-is_mode.true) r.count r.ends _ _ (omega (arith, r.count)) (omega (arith, r.count)) (rw (r.flags, r.stride, r.source, r.target) at c.reaches_counted.ensures)

pub returns-else-is_mode : goal.returns-else-is_mode
returns-else-is_mode c =
    let r = c.flag_rows-rows.ensures in
    reach-by-flags _ _ _ _ c.requires.0 (sym c.is_mode.ensures ∙ c.if-is_mode.false) r.count (rw (r.flags, r.stride) at c.reaches.ensures)
