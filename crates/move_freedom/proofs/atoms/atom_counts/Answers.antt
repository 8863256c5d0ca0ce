-- The counts are a part of the area. Assumes nothing.
use Rattle.std.proofs.Common.{◌∙◌}
use Rattle.move_freedom.proofs.AtomCounts.{counts_part}
use Rattle.move_freedom.proofs.atoms.atom_counts.Goals as goal

pub returns : goal.returns
returns c = c.lane.ensures ∙ counts_part c.requires
