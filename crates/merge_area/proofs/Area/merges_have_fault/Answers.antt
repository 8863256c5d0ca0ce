-- Merges without a fault of their numbers can be followed. Assumes nothing.
use Rattle.std.proofs.Common.{sym, ◌∙◌, arith}
use Rattle.merge_area.proofs.Merging.{can_follow}
use Rattle.merge_area.proofs.Area.merges_have_fault.Goals as goal

pub has_ring-requires : goal.has_ring-requires
has_ring-requires c = can_follow _ _ c.args.self.now.headed (sym c.is_mode.ensures ∙ c.if-is_mode.true) (omega arith) c.header.ensures
