-- A header without a fault is in range. Assumes nothing.
use Rattle.std.proofs.Common.{sym, ◌∙◌}
use Rattle.merge_area.specs.Within.{headed}
use Rattle.merge_area.proofs.is_inconsistent.Goals as goal

pub invariant_of-has_fault : goal.invariant_of-has_fault
invariant_of-has_fault c = record { headed = headed c.args.places.limits c.requires (sym c.head_has_fault.ensures ∙ c.if-head_has_fault.false) }
