-- The counts of all atoms are those of the plan. Assumes nothing.
use Rattle.std.proofs.Common.{ap, ◌∙◌, ◌-◌}
use Rattle.move_freedom.proofs.AtomCounts.{all_asks, freed}
use Rattle.move_freedom.proofs.atoms.how_free.Goals as goal

pub of_all-requires : goal.of_all-requires
of_all-requires c = all_asks c.requires c.atom_counts.ensures (c.saturating_sub.ensures ∙ ap (λ k. k - 1) c.occupied_nodes-chunks.ensures)

pub returns : goal.returns
returns c = freed c.requires c.of_all.ensures
