-- `in_range`: each number is in range, the limit falling by 64. Assumes nothing.
use Rattle.std.proofs.Common.{rules, refl}
use Rattle.entry_set.proofs.Compare.{range_four}
use Rattle.entry_set.proofs.EntrySet.in_range.Goals as goal

pub returns : goal.returns
returns c =
    rw (
      c.below.ensures,
      c.below-2.ensures,
      c.below-3.ensures,
      c.below-4.ensures,
      c.saturating_sub.ensures,
      c.saturating_sub-2.ensures,
      c.saturating_sub-3.ensures,
      range_four c.args.self c.args.e (search rules),
    ) refl
