-- `move_consistency::worked::is_worked` meets its contract. Assumes nothing.
use Rattle.std.proofs.Common.{◌∙◌}
use Rattle.move_consistency.proofs.Working.{work_counted, work_match, work_first, work_done}
use Rattle.move_consistency.proofs.worked.is_worked.Goals as goal

pub edges_hold-edges_fit-requires : goal.edges_hold-edges_fit-requires
edges_hold-edges_fit-requires g c = let f = c.fill_own_slots in work_match c.requires (work_counted c.requires f.ensures c.slot_count.ensures) f.auto.sources f.auto.targets f.auto.counts

pub returns : goal.returns
returns g c =
    let f = c.fill_own_slots in
    work_done f.ensures (work_counted c.requires f.ensures c.slot_count.ensures) c.edges_hold-edges_fit.ensures c.counts_hold-counts_fit.ensures c.count_filled-chunks.ensures c.sum.ensures
    c.totals_are-totals_fit.ensures c.flags_hold-flags_fit.ensures (work_first c.requires _ f.auto.counts) (work_first c.requires _ (c.edges_hold-edges_fit.auto.degrees ∙ f.auto.counts))
