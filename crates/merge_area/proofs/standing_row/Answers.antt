-- Sizes within the limits, an area that is long enough, and a header that is in range. Assumes nothing.
use Rattle.std.proofs.Common.{sym, ◌∙◌}
use Rattle.graphs.specs.Bools.{or_false_left}
use Rattle.merge_area.specs.Consistent.{inconsistent, head_fault}
use Rattle.merge_area.specs.Within.{within, longs, headed}
use Rattle.merge_area.proofs.standing_row.Goals as goal

pub is_inconsistent-requires : goal.is_inconsistent-requires
is_inconsistent-requires c = longs _ _ (sym c.too_short.ensures ∙ c.if-too_short.false)

pub invariant_of-result : goal.invariant_of-result
unfolding inconsistent
invariant_of-result c = record {
  headed =
      headed (within _ (sym c.over_limits.ensures ∙ c.if-over_limits.false)) (longs _ _ (sym c.too_short.ensures ∙ c.if-too_short.false))
      (or_false_left (head_fault c.args.sizes c.args.numbers.now) _ (sym c.is_inconsistent.ensures ∙ c.if-is_inconsistent.false));
}
